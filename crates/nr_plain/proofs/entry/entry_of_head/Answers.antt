use Rattle.std.proofs.Common.{Bool, ℕ, List, [], ◌∷◌, drop, refl, sym, ap, ◌∙◌}
use Rattle.nr_reduce.specs.declared.mark.Entry.{Entry}
use Rattle.nr_plain.specs.Added.{entries_by_head}
use Rattle.nr_plain.specs.Replies.{entries_if}
use Rattle.nr_plain.proofs.entry.entry_of_head.Goals as goal

pub returns-then-not-is_entry : goal.returns-then-not-is_entry
returns-then-not-is_entry c =
    let e : Entry = record { moment = c.args.moment; cred = c.in-Version2.cred; proc = c.in-Version2.proc; args = drop c.in-Version2.args_at c.args.payload.now } in
    sym (ap (entries_by_head c.args.moment c.args.payload.now c.args.reply.now) c.in-Version2.is ∙ c.is_entry.ensures e refl ∙ ap (λ (b : Bool). entries_if b e) c.if-not-is_entry.true)

pub returns-in_ok-from_slice-in-Version2 : goal.returns-in_ok-from_slice-in-Version2
returns-in_ok-from_slice-in-Version2 c =
    let e : Entry = record { moment = c.args.moment; cred = c.in-Version2.cred; proc = c.in-Version2.proc; args = drop c.in-Version2.args_at c.args.payload.now } in
    ap (λ (args : List ℕ). record { moment = c.args.moment; cred = c.in-Version2.cred; proc = c.in-Version2.proc; args = args } ∷ []) (c.in_ok-from_slice-in-Version2.ensures ∙ c.rest.ensures)
    ∙ sym (ap (entries_by_head c.args.moment c.args.payload.now c.args.reply.now) c.in-Version2.is ∙ c.is_entry.ensures e refl ∙ ap (λ (b : Bool). entries_if b e) c.if-not-is_entry.false)
