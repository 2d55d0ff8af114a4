use Rattle.nr_drill.proofs.printing.push_refused.Goals as goal

pub returns-in-TooLarge : goal.returns-in-TooLarge
returns-in-TooLarge c = rw c.in-TooLarge.is (rw (c.from.ensures) at c.push_words.ensures)

pub returns-in-Spent : goal.returns-in-Spent
returns-in-Spent c = rw c.in-Spent.is (rw (c.from-in-Spent.ensures) at c.push_words-in-Spent.ensures)

pub returns-in-Window : goal.returns-in-Window
returns-in-Window c = rw c.in-Window.is (rw (c.from-in-Window.ensures) at c.push_words-in-Window.ensures)
