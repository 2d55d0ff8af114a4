-- Links that were not reopened, of clients without numbers: nothing is sent again on them, and each is the only link of its client.
use Rattle.std.proofs.Common.{◌≡◌, ℕ, ◌+◌, ◌-◌, zero, suc, Bool, false, List, ◌∷◌, ◌++◌, refl, sym, ap, ◌∙◌, append-nil, length}
use Rattle.std.specs.Prelude.{◌==◌, if◌then◌else◌, map, slice_index_or}
use Rattle.std.specs.List.{range_with_len}
use Rattle.nr_reduce.specs.declared.mark.Mark.{Mark}
use Rattle.nr_reduce.specs.declared.mark.LinkParameters.{LinkParameters}
use Rattle.nr_reduce.specs.Opening.{IsFirstLink}
use Rattle.nr_reduce.specs.ClientState.{WaitingCall}
use Rattle.nr_reduce.proofs.Unresumed.{none_resent, none_waits}
use Rattle.nr_texts.specs.declared.opening.Opening.{Opening}
use Rattle.nr_drill.specs.Follows.{parameters_of, setting_of}
use Rattle.nr_drill.specs.Drill.{SerialServer, Setting, Drill, client_of, setting_now, start, resend_mark, settled, after_resends, after_outcomes, after_feeding_down, after_down}
use Rattle.nr_reduce.specs.Run.{client}
use Rattle.nr_drill.specs.Unnumbered.{AreFirst}

-- each link is that of the client of its number
pub own_client : (s : Setting) (link : ℕ) → (s.opened link).client.number ≡ 0 → client_of s link ≡ link
own_client s link none = ap (λ (n : ℕ). if n == 0 then link else n) none

-- nothing is sent again
pub no_resends : (s : Setting) (link : ℕ) (d : Drill) → IsFirstLink (s.opened link) → after_resends s link d ≡ d
unfolding after_resends
no_resends s link d first =
    ap (λ (ws : List WaitingCall). record d { marks = d.marks ++ map (resend_mark link) ws }) (none_resent (s.opened link) link d.marks first.resumed)
    ∙ ap (λ (run : List Mark). record d { marks = run }) (append-nil d.marks)

-- so the outcomes that are due are handed over right after bytes were fed
pub down_is : (s : Setting) (link n : ℕ) (d : Drill) → IsFirstLink (s.opened link) → after_down s link n d ≡ settled s link (after_outcomes s link (after_feeding_down link n d))
unfolding after_down
down_is s link n d first = ap (λ (x : Drill). settled s link (after_outcomes s link x)) (no_resends s link (after_feeding_down link n d) first)

pub none_waiting : (o : LinkParameters) (link : ℕ) (old new : List Mark) → IsFirstLink o → length (client o link new).state.waiting ≡ length (client o link old).state.waiting
none_waiting o link old new first =
    ap (λ (ws : List WaitingCall). length ws) (none_waits o link new first.resumed ∙ sym (none_waits o link old first.resumed))

-- ===== the links of clients without numbers

pub opened_firsts : (server : SerialServer) (opening : Opening) → opening.numbered ≡ false → AreFirst (setting_of server opening)
opened_firsts server opening none = record {
  on = λ link. record { resumed = refl; agreed = refl };
  unnumbered = λ link. ap (λ (b : Bool). if b then link else 0) none;
}

-- what is so of each value of a function is so of one at an index of its values over a range
any_range : {X : Type 0} (P : X → Type 0) (f : ℕ → X) (from n i link : ℕ) → ((l : ℕ) → P (f l)) → P (slice_index_or (map f (range_with_len from n)) i (f link))
any_range P f from zero i link all = all link
any_range P f from (suc n) zero link all = all from
any_range P f from (suc n) (suc i) link all = any_range P f (from + 1) n i link all

-- All links are opened with the same. So as long as no client begins another link, a drill's links are opened as the setting says.
pub same_parameters : (opening : Opening) (l link : ℕ) → opening.numbered ≡ false → parameters_of opening l ≡ parameters_of opening link
same_parameters opening l link none = ap (parameters_by l) none ∙ sym (ap (parameters_by link) none)
  where
    parameters_by : ℕ → Bool → LinkParameters
    parameters_by link numbered = record (parameters_of opening link) { client = record { units = opening.client_units; number = if numbered then link else 0; invalidates = opening.invalidates } }

pub now_is : (server : SerialServer) (opening : Opening) (clients : ℕ) (d : Drill) → opening.numbered ≡ false → d.opened ≡ (start (setting_of server opening) clients).opened →
    setting_now (setting_of server opening) d ≡ setting_of server opening
now_is server opening clients d none is =
    ap (λ (all : List LinkParameters). record s { opened = λ link. slice_index_or (s.opened 0 ∷ all) link (s.opened link) }) is
    ∙ (λ i. record s { opened = λ link. same link i })
  where
    s : Setting
    s = setting_of server opening

    same : (link : ℕ) → slice_index_or (s.opened 0 ∷ map s.opened (range_with_len 1 clients)) link (s.opened link) ≡ s.opened link
    same zero = refl
    same (suc link) = any_range (λ (o : LinkParameters). o ≡ s.opened (suc link)) s.opened 1 clients link (suc link) (λ l. same_parameters opening l (suc link) none)
