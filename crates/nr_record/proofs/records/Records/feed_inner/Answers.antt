use Rattle.std.proofs.Common.{◌≡◌, ℕ, [], ◌++◌, take, drop, List, sym, ap, subst, ◌∙◌, append_assoc, append-nil, length, length-append, arith}
use Rattle.std.proofs.lemmas.Grind.{common_steps}
use Rattle.nr_record.specs.RecordsState.{kept, RepresentsStream}
use Rattle.nr_record.proofs.Standing.{later_stands}
use Rattle.nr_record.proofs.Waiting.{by_none, through, onward, keeps_on}
use Rattle.nr_record.proofs.records.Records.feed_inner.Goals as goal

pub returns-in-Some-fault-clause-stands : goal.returns-in-Some-fault-clause-stands
returns-in-Some-fault-clause-stands c = λ stream taken s. let i = c.loop-rest.invariant in let n = c.advance-len.result in let rest = c.loop-rest.rest.now in let k = kept c.advance-len.new.self in
    let after = c.advance-len.ensures.stands (stream ++ i.0) taken (i.4 stream taken s) in
    subst (λ (l : List ℕ). RepresentsStream k l taken) (through stream i.0 rest c.args.piece.now n i.1) (later_stands k ((stream ++ i.0) ++ take n rest) (drop n rest) taken c.in-Some-fault.fault c.in-Some-fault.is after)

pub loop-rest-preserved : goal.loop-rest-preserved
loop-rest-preserved c = let i = c.loop-rest.invariant in let n = c.advance-len.result in let rest = c.loop-rest.rest.now in let k = kept c.advance-len.new.self in let back = c.split_at.ensures.back in (
  i.0 ++ take n rest,
  onward i.0 rest c.args.piece.now c.split_at.result.1.now n i.1 back,
  c.in_default-fault.is,
  omega (arith, i.3, c.advance-len.ensures.count, c.split_at.ensures.back_len, c.advance-len.ensures.within),
  λ stream taken s. subst (λ (l : List ℕ). RepresentsStream k l taken) (append_assoc stream i.0 (take n rest)) (c.advance-len.ensures.stands (stream ++ i.0) taken (i.4 stream taken s)),
  keeps_on (kept c.args.self.now) (kept c.loop-rest.self) k i.5 c.advance-len.ensures.keeps,
)

pub returns-clause-stands : goal.returns-clause-stands
returns-clause-stands c = λ stream taken s. let i = c.loop-rest.invariant in let rest = c.loop-rest.rest.now in
    let none : rest ≡ [] = by_none rest (grind (arith, common_steps, c.is_empty.ensures, c.loop-rest-test.false)) in
    let all : i.0 ≡ c.args.piece.now = sym (i.1 ∙ (ap (λ (l : List ℕ). i.0 ++ l) none ∙ append-nil i.0)) in
    subst (λ (l : List ℕ). RepresentsStream (kept c.loop-rest.self) (stream ++ l) taken) all (i.4 stream taken s)

pub returns-in-Some-fault-clause-keeps : goal.returns-in-Some-fault-clause-keeps
returns-in-Some-fault-clause-keeps c = let i = c.loop-rest.invariant in keeps_on (kept c.args.self.now) (kept c.loop-rest.self) (kept c.advance-len.new.self) i.5 c.advance-len.ensures.keeps

pub returns-in-Some-fault-clause-forward : goal.returns-in-Some-fault-clause-forward
returns-in-Some-fault-clause-forward c = let i = c.loop-rest.invariant in omega (arith, i.3, ap (λ (l : List ℕ). length l) i.1, length-append i.0 c.loop-rest.rest.now, c.advance-len.ensures.count)

pub returns-clause-forward : goal.returns-clause-forward
returns-clause-forward c = let i = c.loop-rest.invariant in omega (arith, i.3, ap (λ (l : List ℕ). length l) i.1, length-append i.0 c.loop-rest.rest.now)

pub returns-clause-keeps : goal.returns-clause-keeps
returns-clause-keeps c = c.loop-rest.invariant.5
