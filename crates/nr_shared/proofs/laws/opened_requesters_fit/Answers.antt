use Rattle.nr_shared.proofs.laws.opened_requesters_fit.Goals as goal

pub returns : goal.returns
returns c = λ history initial opened numbers is opens new stands. (initial, is, record { opens = opens; first = stands.first; live = record { stands = stands; asked = tt; granted = tt }; new = new })
