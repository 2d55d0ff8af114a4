use Rattle.nr_xdr.proofs.Rooms.{WordsLeft}
use Rattle.nr_rpc.proofs.put.put_words.Given as goal

abbrev pub invariant-loop-number : goal.invariant-loop-number
invariant-loop-number l = WordsLeft l.fn.writer l.writer l.numbers l.number-index
