use Rattle.std.proofs.Common.{◌≡◌, ℕ, ◌<◌, ◌≤◌, List, Option, take, ◌++◌, refl, sym, ap, subst, ◌∙◌, length, arith}
use Rattle.std.specs.Prelude.{get_or, remove, vec_capacity}
use Rattle.std.proofs.lemmas.List.{length-take}
use Rattle.nr_regions.specs.RegisteredMemory.{RegisteredMemory, AreHeldFrom}
use Rattle.nr_endpoint.specs.LinkState.{LinkSide}
use Rattle.nr_endpoint.specs.Calls.{after_call}
use Rattle.nr_endpoint.specs.Calls.Call.{Post}
use Rattle.nr_xdr.specs.Fields.{word_at}
use Rattle.nr_reduce.specs.Client.{credits_of_word}
use Rattle.nr_reduce.specs.ClientMessages.{ReplyVerdict}
use Rattle.nr_reduce.specs.KeptCalls.{kept_named, kept_message_verdict}
use Rattle.nr_reduce.specs.KeptClient.{bytes_under, released_all}
use Rattle.nr_requester.specs.declared.outstanding.OutstandingCall.{OutstandingCall}
use Rattle.nr_requester.specs.RequesterState.{stags_of, awaited_call}
use Rattle.nr_requester.specs.HeldClaims.{call_claims}
use Rattle.nr_requester.specs.AfterPiece.{dead_memory, answered_as}
use Rattle.nr_requester.specs.AfterCalls.{live_count}
use Rattle.nr_requester.specs.CountedMarks.{with_releases}
use Rattle.nr_requester.specs.Buffers.{with_memory}
use Rattle.nr_requester.specs.Judged.{kept_views, outcome_by}
use Rattle.nr_requester.specs.Fed.{CallsSound, JudgesTo}
use Rattle.nr_requester.specs.Views.{stored_view}
use Rattle.nr_requester.proofs.MessageBodies.{one_held, shorter_rooms}
use Rattle.nr_requester.proofs.OneMessage.{post_memory, post_ended, post_place, stop_sound, stop_on, first_of, same_xid, same_send, sound_as, found_ok, found_err}
use Rattle.nr_requester.proofs.StepSides.{remove_fewer}
use Rattle.nr_requester.proofs.Taken.{same_views, same_length, same_sound, completed_sound, judged_gives}
use Rattle.nr_requester.proofs.FedBounds.{post_bounded, dead_bounded, stop_dead_bounded}
use Rattle.nr_requester.proofs.DeadRegions.{dead_held, dead_sound}
use Rattle.nr_requester.proofs.AnswerBounds.{rooms_bounded, completed_bounded}
use Rattle.nr_requester.proofs.pieces.take_message.Goals as goal

pub verdict-own-requires-clause-rooms : goal.verdict-own-requires-clause-rooms
verdict-own-requires-clause-rooms c =
    let front : c.split_at.result.0.now ≡ take c.args.len c.args.buf = c.split_at.ensures.front ∙ ap (λ (xs : List ℕ). take c.args.len xs) c.as_slice.ensures in
    let fits : length c.split_at.result.0.now ≤ c.args.endpoint.now.link.state.receive_queue.receive_length =
    omega (arith, ap (λ (xs : List ℕ). length xs) front, length-take c.args.len c.args.buf, c.requires.buf) in
    shorter_rooms (length c.split_at.result.0.now) c.args.endpoint.now.link.state.receive_queue.receive_length c.args.outstanding.now.items fits c.requires.calls.1.rooms

pub complete-requires-clause-held : goal.complete-requires-clause-held
complete-requires-clause-held c = λ d.
    let b = found_ok _ c.verdict-own.result.1 (c.in-Ok.at, c.in-Ok.found) c.in-Ok.is c.verdict-own.ensures.ok in
    let l : LinkSide = c.args.endpoint.now.link in
    let own = c.verdict-own.result.0 in
    let s = same_sound l.state.receive_queue.receive_length l.state.memory c.requires.calls.0 (vec_capacity c.args.answered.now) c.args.outstanding.now.items c.verdict-own.new.calls.items c.args.answered.now.items c.verdict-own.ensures.same c.requires.calls.1 in
    let posted : c.post.new.self.link.state.memory ≡ l.state.memory = ap (λ (x : LinkSide). x.state.memory) c.post.ensures.state ∙ post_memory l in
    let memory : c.invalidate_named.new.endpoint.link.state.memory ≡ dead_memory own l.state.memory = ap (λ (x : LinkSide). x.state.memory) c.invalidate_named.ensures.link ∙ ap (λ (m : RegisteredMemory). dead_memory own m) posted in
    subst (λ (m : RegisteredMemory). AreHeldFrom m 0 (call_claims (get_or c.verdict-own.new.calls.items c.in-Ok.at d).claims)) (sym memory)
    (one_held (dead_memory own l.state.memory) c.verdict-own.new.calls.items c.in-Ok.at d b.within (dead_held own l.state.memory 0 _ s.held))

pub stop-requires-clause-live : goal.stop-requires-clause-live
stop-requires-clause-live c = ap (λ (l : LinkSide). l.state.ended) c.post.ensures.state ∙ (post_ended c.args.endpoint.now.link ∙ c.requires.live)

pub stop-requires-clause-frame : goal.stop-requires-clause-frame
stop-requires-clause-frame c = subst (λ (n : ℕ). 0 < n) (sym (ap (λ (l : LinkSide). l.state.place) c.post.ensures.state ∙ post_place c.args.endpoint.now.link)) c.requires.frame

pub returns-in-Ok-clause-judged : goal.returns-in-Ok-clause-judged
returns-in-Ok-clause-judged c =
    let b = found_ok _ c.verdict-own.result.1 (c.in-Ok.at, c.in-Ok.found) c.in-Ok.is c.verdict-own.ensures.ok in
    let l : LinkSide = c.args.endpoint.now.link in
    let same = c.verdict-own.ensures.same in
    let own = c.verdict-own.result.0 in
    let views = kept_views c.args.sent c.args.outstanding.now.items in
    let d : OutstandingCall = first_of c.verdict-own.new.calls.items c.in-Ok.at b.within in
    let front : c.split_at.result.0.now ≡ take c.args.len c.args.buf = c.split_at.ensures.front ∙ ap (λ (xs : List ℕ). take c.args.len xs) c.as_slice.ensures in
    let own_is : own ≡ kept_named views c.args.named (take c.args.len c.args.buf) = c.verdict-own.ensures.own ∙ ap (λ (xs : List ℕ). kept_named views c.args.named xs) front in
    let posted : c.post.new.self.link.state.memory ≡ l.state.memory = ap (λ (x : LinkSide). x.state.memory) c.post.ensures.state ∙ post_memory l in
    let died : c.invalidate_named.new.endpoint.link ≡ with_memory (dead_memory own l.state.memory) (after_call l Post) =
    c.invalidate_named.ensures.link ∙ (λ i. with_memory (dead_memory own (posted i)) (c.post.ensures.state i)) in
    let memory : c.invalidate_named.new.endpoint.link.state.memory ≡ dead_memory own l.state.memory = ap (λ (x : LinkSide). x.state.memory) died in
    let call : OutstandingCall = get_or c.verdict-own.new.calls.items c.in-Ok.at d in
    subst (λ (o : Option ℕ). JudgesTo (kept_message_verdict views (bytes_under l.state.memory) c.args.named (take c.args.len c.args.buf)) o (take c.args.len c.args.buf) l c.complete.new.endpoint.link c.args.outstanding.now.items c.complete.new.outstanding.items c.args.answered.now.items c.complete.new.answered.items c.args.grant.now c.credits_of-credits.result c.args.releases.now c.complete.new.releases) own_is
    (subst (λ (cs : List OutstandingCall). JudgesTo (kept_message_verdict views (bytes_under l.state.memory) c.args.named (take c.args.len c.args.buf)) own (take c.args.len c.args.buf) l c.complete.new.endpoint.link c.args.outstanding.now.items cs c.args.answered.now.items c.complete.new.answered.items c.args.grant.now c.credits_of-credits.result c.args.releases.now c.complete.new.releases) (sym c.complete.ensures.outstanding)
    (judged_gives l.state.receive_queue.receive_length c.args.sent c.requires.calls.0 (vec_capacity c.args.answered.now) c.in-Ok.at l c.complete.new.endpoint.link c.args.outstanding.now.items c.verdict-own.new.calls.items
    c.args.answered.now.items c.complete.new.answered.items c.args.grant.now c.credits_of-credits.result c.args.releases.now c.complete.new.releases c.args.named own (take c.args.len c.args.buf) d (outcome_by c.in-Ok.found call.room.bytes) (bytes_under l.state.memory)
    ((λ i. kept_message_verdict views (bytes_under (sym c.regions.ensures i)) c.args.named (sym front i)) ∙ b.verdict d)
    b.within same c.requires.calls.1 (same_xid c.args.outstanding.now.items c.verdict-own.new.calls.items c.in-Ok.at d same)
    (c.complete.ensures.link d ∙ ap (λ (x : LinkSide). with_memory (released_all x.state.memory (stags_of call.claims)) x) died)
    (c.complete.ensures.answered d ∙ ap (λ (m : RegisteredMemory). c.args.answered.now.items ++ answered_as m (stored_view call) (awaited_call (stored_view call)) (outcome_by c.in-Ok.found call.room.bytes)) memory)
    (c.credits_of-credits.ensures.granted ∙ ap credits_of_word (c.credit_of.ensures ∙ ap (λ (xs : List ℕ). word_at 8 xs) front))
    (c.complete.ensures.releases d ∙ ap (λ (m : RegisteredMemory). with_releases (live_count m (stags_of call.claims)) c.args.releases.now) memory)))

pub returns-in-Ok-clause-sound : goal.returns-in-Ok-clause-sound
returns-in-Ok-clause-sound c = λ most next s.
    let b = found_ok _ c.verdict-own.result.1 (c.in-Ok.at, c.in-Ok.found) c.in-Ok.is c.verdict-own.ensures.ok in
    let l : LinkSide = c.args.endpoint.now.link in
    let own = c.verdict-own.result.0 in
    let d : OutstandingCall = first_of c.verdict-own.new.calls.items c.in-Ok.at b.within in
    let posted : c.post.new.self.link.state.memory ≡ l.state.memory = ap (λ (x : LinkSide). x.state.memory) c.post.ensures.state ∙ post_memory l in
    let memory : c.invalidate_named.new.endpoint.link.state.memory ≡ dead_memory own l.state.memory = ap (λ (x : LinkSide). x.state.memory) c.invalidate_named.ensures.link ∙ ap (λ (m : RegisteredMemory). dead_memory own m) posted in
    let call : OutstandingCall = get_or c.verdict-own.new.calls.items c.in-Ok.at d in
    let t = same_sound most l.state.memory next (vec_capacity c.args.answered.now) c.args.outstanding.now.items c.verdict-own.new.calls.items c.args.answered.now.items c.verdict-own.ensures.same s in
    sound_as most _ c.complete.new.endpoint.link.state.memory next (vec_capacity c.args.answered.now) (vec_capacity c.complete.new.answered) (remove c.verdict-own.new.calls.items c.in-Ok.at) c.complete.new.outstanding.items _ c.complete.new.answered.items
    (ap (λ (x : LinkSide). x.state.memory) (c.complete.ensures.link d) ∙ ap (λ (m : RegisteredMemory). released_all m (stags_of call.claims)) memory)
    c.complete.ensures.outstanding
    (c.complete.ensures.answered d ∙ ap (λ (m : RegisteredMemory). c.args.answered.now.items ++ answered_as m (stored_view call) (awaited_call (stored_view call)) (outcome_by c.in-Ok.found call.room.bytes)) memory)
    c.complete.ensures.capacity
    (completed_sound most (dead_memory own l.state.memory) next (vec_capacity c.args.answered.now) c.in-Ok.at c.verdict-own.new.calls.items c.args.answered.now.items d (awaited_call (stored_view call)) (outcome_by c.in-Ok.found call.room.bytes) b.within
    (dead_sound own most l.state.memory next (vec_capacity c.args.answered.now) c.verdict-own.new.calls.items c.args.answered.now.items t))

pub returns-in-Err-clause-judged : goal.returns-in-Err-clause-judged
returns-in-Err-clause-judged c =
    let b = found_err _ c.verdict-own.result.1 c.in-Err.reason c.in-Err.is c.verdict-own.ensures.err in
    let own = c.verdict-own.result.0 in
    let views = kept_views c.args.sent c.args.outstanding.now.items in
    let front : c.split_at.result.0.now ≡ take c.args.len c.args.buf = c.split_at.ensures.front ∙ ap (λ (xs : List ℕ). take c.args.len xs) c.as_slice.ensures in
    let own_is : own ≡ kept_named views c.args.named (take c.args.len c.args.buf) = c.verdict-own.ensures.own ∙ ap (λ (xs : List ℕ). kept_named views c.args.named xs) front in
    let verdict = (λ i. kept_message_verdict views (bytes_under (sym c.regions.ensures i)) c.args.named (sym front i)) ∙ b.0 in
    subst (λ (o : Option ℕ). JudgesTo (kept_message_verdict views (bytes_under c.args.endpoint.now.link.state.memory) c.args.named (take c.args.len c.args.buf)) o (take c.args.len c.args.buf) c.args.endpoint.now.link c.stop.new.endpoint.link c.args.outstanding.now.items c.verdict-own.new.calls.items c.args.answered.now.items c.args.answered.now.items c.args.grant.now c.args.grant.now c.args.releases.now c.args.releases.now) own_is
    (subst (λ (v : ReplyVerdict). JudgesTo v own (take c.args.len c.args.buf) c.args.endpoint.now.link c.stop.new.endpoint.link c.args.outstanding.now.items c.verdict-own.new.calls.items c.args.answered.now.items c.args.answered.now.items c.args.grant.now c.args.grant.now c.args.releases.now c.args.releases.now) (sym verdict)
    (stop_on own (after_call c.args.endpoint.now.link Post) c.post.new.self.link c.stop.new.endpoint.link c.in-Err.reason c.post.ensures.state c.stop.ensures.link, (same_views c.args.outstanding.now.items c.verdict-own.new.calls.items c.verdict-own.ensures.same, (refl, (refl, (b.1, refl))))))

pub returns-in-Err-clause-sound : goal.returns-in-Err-clause-sound
returns-in-Err-clause-sound c = λ most next s.
    let memory : c.post.new.self.link.state.memory ≡ c.args.endpoint.now.link.state.memory = ap (λ (l : LinkSide). l.state.memory) c.post.ensures.state ∙ post_memory c.args.endpoint.now.link in
    let lives = ap (λ (l : LinkSide). l.state.ended) c.post.ensures.state ∙ (post_ended c.args.endpoint.now.link ∙ c.requires.live) in
    stop_sound c.verdict-own.result.0 c.post.new.self.link c.stop.new.endpoint.link c.in-Err.reason most next (vec_capacity c.args.answered.now) c.verdict-own.new.calls.items c.args.answered.now.items lives c.stop.ensures.link
    (subst (λ (m : RegisteredMemory). CallsSound most m next c.verdict-own.new.calls.items c.args.answered.now.items (vec_capacity c.args.answered.now)) (sym memory)
    (same_sound most c.args.endpoint.now.link.state.memory next (vec_capacity c.args.answered.now) c.args.outstanding.now.items c.verdict-own.new.calls.items c.args.answered.now.items c.verdict-own.ensures.same s))

pub returns-in-Ok-clause-fewer : goal.returns-in-Ok-clause-fewer
returns-in-Ok-clause-fewer c =
    let same = same_length c.args.outstanding.now.items c.verdict-own.new.calls.items c.verdict-own.ensures.same in
    let less = remove_fewer c.verdict-own.new.calls.items c.in-Ok.at in
    let is = ap (λ (cs : List OutstandingCall). length cs) c.complete.ensures.outstanding in
    omega (arith, same, less, is)

pub returns-in-Err-clause-fewer : goal.returns-in-Err-clause-fewer
returns-in-Err-clause-fewer c = (let same = same_length c.args.outstanding.now.items c.verdict-own.new.calls.items c.verdict-own.ensures.same in omega (arith, same))

pub returns-in-Ok-clause-bounded : goal.returns-in-Ok-clause-bounded
returns-in-Ok-clause-bounded c = λ most sends next bounded.
    let b = found_ok _ c.verdict-own.result.1 (c.in-Ok.at, c.in-Ok.found) c.in-Ok.is c.verdict-own.ensures.ok in
    let l : LinkSide = c.args.endpoint.now.link in
    let own = c.verdict-own.result.0 in
    let same = c.verdict-own.ensures.same in
    let d : OutstandingCall = first_of c.verdict-own.new.calls.items c.in-Ok.at b.within in
    let was : c.post.new.self.link.state.memory ≡ l.state.memory = ap (λ (x : LinkSide). x.state.memory) c.post.ensures.state ∙ post_memory l in
    let memory : c.invalidate_named.new.endpoint.link.state.memory ≡ dead_memory own l.state.memory = ap (λ (x : LinkSide). x.state.memory) c.invalidate_named.ensures.link ∙ ap (λ (m : RegisteredMemory). dead_memory own m) was in
    let sound = subst (λ (m : RegisteredMemory). CallsSound l.state.receive_queue.receive_length m c.requires.calls.0 c.verdict-own.new.calls.items c.args.answered.now.items (vec_capacity c.args.answered.now)) (sym memory)
    (dead_sound own l.state.receive_queue.receive_length l.state.memory c.requires.calls.0 (vec_capacity c.args.answered.now) c.verdict-own.new.calls.items c.args.answered.now.items
    (same_sound l.state.receive_queue.receive_length l.state.memory c.requires.calls.0 (vec_capacity c.args.answered.now) c.args.outstanding.now.items c.verdict-own.new.calls.items c.args.answered.now.items same c.requires.calls.1)) in
    let posted = post_bounded most c.args.sent sends next c.args.outstanding.now.items c.args.answered.now.items c.args.endpoint.now c.post.new.self (ap (λ (xs : List ℕ). length xs) c.post.ensures.staging) c.post.ensures.outside bounded c.post.ensures.state in
    let died = dead_bounded most c.args.sent sends next c.args.outstanding.now.items c.args.answered.now.items c.post.new.self c.invalidate_named.new.endpoint (ap (λ (xs : List ℕ). length xs) c.invalidate_named.ensures.staging) c.invalidate_named.ensures.outside posted own c.invalidate_named.ensures.link in
    let gone = subst (λ (n : ℕ). n < c.args.sent) (same_send c.args.outstanding.now.items c.verdict-own.new.calls.items c.in-Ok.at d same) (b.sent d) in
    completed_bounded most c.args.sent sends next c.in-Ok.at (vec_capacity c.args.answered.now) l.state.receive_queue.receive_length c.requires.calls.0 c.invalidate_named.new.endpoint c.complete.new.endpoint c.verdict-own.new.calls.items c.complete.new.outstanding.items c.args.answered.now.items c.complete.new.answered.items d c.in-Ok.found
    b.within gone sound c.complete.ensures.staging c.complete.ensures.outside (c.complete.ensures.link d) c.complete.ensures.outstanding (c.complete.ensures.answered d)
    (rooms_bounded most c.args.sent sends next c.invalidate_named.new.endpoint c.args.outstanding.now.items c.verdict-own.new.calls.items c.args.answered.now.items same died)

pub returns-in-Err-clause-bounded : goal.returns-in-Err-clause-bounded
returns-in-Err-clause-bounded c = λ most sends next bounded.
    let same = c.verdict-own.ensures.same in
    let lives = ap (λ (l : LinkSide). l.state.ended) c.post.ensures.state ∙ (post_ended c.args.endpoint.now.link ∙ c.requires.live) in
    let posted = post_bounded most c.args.sent sends next c.args.outstanding.now.items c.args.answered.now.items c.args.endpoint.now c.post.new.self (ap (λ (xs : List ℕ). length xs) c.post.ensures.staging) c.post.ensures.outside bounded c.post.ensures.state in
    rooms_bounded most c.args.sent sends next c.stop.new.endpoint c.args.outstanding.now.items c.verdict-own.new.calls.items c.args.answered.now.items same
    (stop_dead_bounded most c.args.sent sends next c.args.outstanding.now.items c.args.answered.now.items c.post.new.self c.stop.new.endpoint (ap (λ (xs : List ℕ). length xs) c.stop.ensures.staging) c.stop.ensures.outside posted c.verdict-own.result.0 c.in-Err.reason lives c.stop.ensures.link)
