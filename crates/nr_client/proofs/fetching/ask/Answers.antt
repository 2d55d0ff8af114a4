use Rattle.std.proofs.Common.{◌≡◌, List, [], ◌∷◌, ◌++◌, refl, sym, ap, subst, ◌∙◌}
use Rattle.nr_reduce.specs.declared.call.Call.{Call}
use Rattle.nr_reduce.specs.declared.call.Form.TheVariants as forms
use Rattle.nr_shared.specs.declared.entry.Entry.TheVariants as entries
use Rattle.nr_client.specs.declared.fetching.AskedPiece.{AskedPiece}
use Rattle.nr_client.specs.private.JobReads.{AreAsked}
use Rattle.nr_client.proofs.AskedReads.{asked_more, asked_still}
use Rattle.nr_client.proofs.JobCalls.{grows_adds, grows_none}
use Rattle.nr_client.proofs.JobReading.{piece_at}
use Rattle.nr_client.proofs.fetching.ask.Goals as goal

pub submit-requires-clause-allowed : goal.submit-requires-clause-allowed
submit-requires-clause-allowed g c =
    subst (λ (d : Call). g.C.CallRule.allows d forms.Auto) (sym c.in-Ok.ensures)
    (c.requires.rule _ (piece_at c.args.file.now.uid c.args.file.now.gid c.args.file.now.handle.now c.args.file.now.size c.args.at c.piece_left-count.result c.requires.below c.piece_left-count.ensures.is))

pub returns-in-Err-clause-grows : goal.returns-in-Err-clause-grows
returns-in-Err-clause-grows g c = grows_none c.args.pass.now.main c.args.pass.now.main refl refl

pub returns-in-Err-clause-asked : goal.returns-in-Err-clause-asked
returns-in-Err-clause-asked g c = subst (AreAsked c.args.file.now.uid c.args.file.now.gid c.args.file.now.handle.now c.args.file.now.size c.args.pass.now.main) (sym c.reserve.ensures.items) c.requires.asked

pub returns-in-Err-read_call-clause-grows : goal.returns-in-Err-read_call-clause-grows
returns-in-Err-read_call-clause-grows g c = grows_none c.args.pass.now.main c.args.pass.now.main refl refl

pub returns-in-Err-read_call-clause-asked : goal.returns-in-Err-read_call-clause-asked
returns-in-Err-read_call-clause-asked g c = subst (AreAsked c.args.file.now.uid c.args.file.now.gid c.args.file.now.handle.now c.args.file.now.size c.args.pass.now.main) (sym c.reserve.ensures.items) c.requires.asked

pub returns-in-Err-submit-clause-grows : goal.returns-in-Err-submit-clause-grows
returns-in-Err-submit-clause-grows g c =
    let none = c.in-Err-submit.ensures.submitted in grows_adds c.args.pass.now.main c.submit.new.pass.main none.writes_before none.adds

pub returns-in-Err-submit-clause-asked : goal.returns-in-Err-submit-clause-asked
returns-in-Err-submit-clause-asked g c =
    let none = c.in-Err-submit.ensures.submitted in
    subst (AreAsked c.args.file.now.uid c.args.file.now.gid c.args.file.now.handle.now c.args.file.now.size c.submit.new.pass.main) (sym c.reserve.ensures.items)
    (asked_still c.args.file.now.uid c.args.file.now.gid c.args.file.now.handle.now c.args.file.now.size c.args.pass.now.main c.submit.new.pass.main c.args.asked.now.items none.adds.seen none.keeps c.requires.asked)

pub returns-clause-grows : goal.returns-clause-grows
returns-clause-grows g c =
    let sent = c.in-Ok-submit.ensures.submitted in
    grows_adds c.args.pass.now.main c.submit.new.pass.main (sent.writes_before ++ entries.Submit c.in-Ok.call forms.Auto c.in-Ok-submit.ticket ∷ sent.writes_after) sent.adds

pub returns-clause-asked : goal.returns-clause-asked
returns-clause-asked g c =
    let last : AskedPiece = record { at = c.args.at; ticket = c.in-Ok-submit.ticket } in
    let all : c.push_reserved.new.self.items ≡ c.args.asked.now.items ++ last ∷ [] = c.push_reserved.ensures.items ∙ ap (λ (l : List AskedPiece). l ++ last ∷ []) c.reserve.ensures.items in
    subst (AreAsked c.args.file.now.uid c.args.file.now.gid c.args.file.now.handle.now c.args.file.now.size c.submit.new.pass.main) (sym all)
    (asked_more c.args.file.now.uid c.args.file.now.gid c.args.file.now.handle.now c.args.file.now.size c.args.pass.now.main c.submit.new.pass.main c.args.asked.now.items c.args.at c.piece_left-count.result c.in-Ok-submit.ticket c.in-Ok.call
    c.in-Ok.ensures c.piece_left-count.ensures.is c.requires.rests.caller.lies c.in-Ok-submit.ensures.submitted c.requires.asked)
