use Rattle.std.proofs.Common.{refl, inl, inr}
use Rattle.std.specs.Str.{is_utf8}
use Rattle.std.proofs.lemmas.Bool.{cases_Bool, false≢true}
use Rattle.std.proofs.lemmas.Str.{IsUtf8-from_is_utf8, is_utf8-from_IsUtf8}
use Rattle.nr_words.proofs.gate_settings.read_gate_config.Goals as goal

pub returns-in-Err-clause-bad : goal.returns-in-Err-clause-bad
returns-in-Err-clause-bad c _ =
    let bytes = c.args.bytes.now in
    elim (cases_Bool (is_utf8 bytes)) [
      | inl y ↦ rw (y, c.in-Err.ensures.refused (λ m. false≢true (c.if-is_memory.ensures.1 m)) (IsUtf8-from_is_utf8 bytes y)) refl
      | inr n ↦ rw n refl
    ]

pub returns-clause-ok : goal.returns-clause-ok
returns-clause-ok c =
    let bytes = c.args.bytes.now in
    let ok = c.in-Ok.ensures.ok in
    rw (is_utf8-from_IsUtf8 bytes ok.0, ok.1, ← c.gate_settings_of.ensures, c.in-Some.is, c.in_ok-listen.ensures.ok, c.in_ok-remote.ensures.ok) refl
