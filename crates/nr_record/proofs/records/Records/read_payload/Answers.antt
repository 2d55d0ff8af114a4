use Rattle.std.proofs.Common.{◌≡◌, ℕ, ◌+◌, ◌<◌, ◌≤◌, [], ◌++◌, length, take, sym, ap, subst, ◌∙◌, arith, ⊎_elim}
use Rattle.nr_record.specs.RecordsState.{RecordsState, kept, RepresentsStream, KeepsWaiting}
use Rattle.std.proofs.lemmas.Bool.{cases_lt}
use Rattle.std.proofs.lemmas.List.{length-take-le}
use Rattle.nr_record.proofs.Standing.{payload_stands, fault_stands}
use Rattle.nr_record.proofs.Waiting.{payload_count, payload_keeps, keeps_same}
use Rattle.nr_record.proofs.records.Records.read_payload.Goals as goal

pub returns-clause-stands : goal.returns-clause-stands
returns-clause-stands c = λ stream taken s. let k = kept c.args.self.now in let n = c.add_to_payload.result in let more = take n c.args.bytes.now in let new = kept c.add_to_payload.new.self in
    let len : length more ≡ n = length-take-le n c.args.bytes.now c.add_to_payload.ensures.within.0 in
    ⊎_elim
    (λ (some : 0 < n). subst (λ (l : RecordsState). RepresentsStream l (stream ++ more) taken) (sym (c.add_to_payload.ensures.some some)) (payload_stands k more stream taken c.requires.fault c.requires.some.1 (omega (arith, len, c.add_to_payload.ensures.within.1)) s))
    (λ (none : n ≤ 0). let z : n ≡ 0 = omega (arith, none) in
    subst (λ (m : ℕ). RepresentsStream new (stream ++ take m c.args.bytes.now) taken) (sym z) (subst (λ (l : RecordsState). RepresentsStream l (stream ++ []) taken) (sym (c.add_to_payload.ensures.none z)) (fault_stands k stream taken c.requires.fault s)))
    (cases_lt 0 n)

pub returns-clause-count : goal.returns-clause-count
returns-clause-count c = let k = kept c.args.self.now in let n = c.add_to_payload.result in let more = take n c.args.bytes.now in
    let len : length more ≡ n = length-take-le n c.args.bytes.now c.add_to_payload.ensures.within.0 in
    ⊎_elim
    (λ (some : 0 < n). ap (λ (l : RecordsState). l.count) (c.add_to_payload.ensures.some some) ∙ (payload_count more k ∙ ap (λ (m : ℕ). k.count + m) len))
    (λ (none : n ≤ 0). let z : n ≡ 0 = omega (arith, none) in ap (λ (l : RecordsState). l.count) (c.add_to_payload.ensures.none z) ∙ (let y : k.count ≡ k.count + n = omega (arith, z) in y))
    (cases_lt 0 n)

pub returns-clause-keeps : goal.returns-clause-keeps
returns-clause-keeps c = let k = kept c.args.self.now in let n = c.add_to_payload.result in let more = take n c.args.bytes.now in
    ⊎_elim
    (λ (some : 0 < n). subst (λ (l : RecordsState). KeepsWaiting k l) (sym (c.add_to_payload.ensures.some some)) (payload_keeps more k))
    (λ (none : n ≤ 0). let z : n ≡ 0 = omega (arith, none) in keeps_same k (kept c.add_to_payload.new.self) (ap (λ (l : RecordsState). l.waiting) (c.add_to_payload.ensures.none z)))
    (cases_lt 0 n)
