-- Feeding is the same however the stream is cut.
use Rattle.nr_wire.proofs.FrontFrame.{front_frame}
use Rattle.std.proofs.Common.{◌≡◌, ℕ, zero, suc, ◌-◌, ◌≤◌, Bool, true, false, cond, List, [], ◌∷◌, ◌++◌, length, take, drop, refl, sym, ap, ◌∙◌, subst, append_assoc, arith, ◌<◌, ◌+◌}
use Rattle.std.proofs.lemmas.List.{length-append, drop_all, append-nil}
use Rattle.nr_wire.specs.declared.stream.Awaited.{Awaited}
use Rattle.nr_wire.specs.declared.stream.Awaited.TheVariants.{Fpdu}
use Rattle.nr_wire.specs.Stream.{frame_len, is_whole, IsPartial, awaited_after, Split, split, bytes_needed, fields_len, IsFrame}
use Rattle.nr_wire.specs.Feeding.{Feeding, feeding_in, feeding_after_frames, feeding_after, feeding_step, feeding_after_step, bytes_taken}
use Rattle.nr_wire.proofs.Frames.{whole_from, partial_from, shorter_than_frame, partial_nil, needed_less, needed_just, partial_not_whole}
use Rattle.nr_wire.proofs.Splits.{split_whole, split_append, split_Splits, awaited_after_Fpdu}

-- what is dropped after a front
drop_past : (front back : List ℕ) (n : ℕ) → length front ≤ n → drop n (front ++ back) ≡ drop (n - length front) back
drop_past [] back n le = ap (λ (k : ℕ). drop k back) (omega arith)
drop_past (x ∷ front) back zero le = absurd (omega arith)
drop_past (x ∷ front) back (suc n) le = drop_past front back n (omega arith) ∙ ap (λ (k : ℕ). drop k back) (omega arith)

module _ {S : Type 0} (ended : S → Bool) (advanced : S → Awaited → List ℕ → S) where
  abbrev kept : Awaited → S → Feeding S
  kept a state = record { awaited = a; rest = []; state = state }

  feeding_in_ended : (a : Awaited) (rest : List ℕ) (state : S) → ended state ≡ true → feeding_in ended advanced a rest state ≡ kept a state
  feeding_in_ended a rest state e = ap (λ (w : Bool). record { awaited = a; rest = cond w [] rest; state = state }) e

  feeding_in_going : (a : Awaited) (rest : List ℕ) (state : S) → ended state ≡ false → feeding_in ended advanced a rest state ≡ record { awaited = a; rest = rest; state = state }
  feeding_in_going a rest state e = ap (λ (w : Bool). record { awaited = a; rest = cond w [] rest; state = state }) e

  -- an ended state is left as it is
  frames_ended : (frames : List (List ℕ)) (rest : List ℕ) (a : Awaited) (state : S) → ended state ≡ true → feeding_after_frames ended advanced frames rest a state ≡ kept a state
  frames_ended [] rest a state e = feeding_in_ended a rest state e
  frames_ended (frame ∷ frames) rest a state e =
      ap (λ (w : Bool). cond w (feeding_in ended advanced a [] state) (feeding_after_frames ended advanced frames rest Fpdu (advanced state a frame))) e
      ∙ feeding_in_ended a [] state e

  frames_going : (frame : List ℕ) (frames : List (List ℕ)) (rest : List ℕ) (a : Awaited) (state : S) → ended state ≡ false → feeding_after_frames ended advanced (frame ∷ frames) rest a state ≡ feeding_after_frames ended advanced frames rest Fpdu (advanced state a frame)
  frames_going frame frames rest a state e =
      ap (λ (w : Bool). cond w (feeding_in ended advanced a [] state) (feeding_after_frames ended advanced frames rest Fpdu (advanced state a frame))) e

  pub feeding_after-ended : (f : Feeding S) (bytes : List ℕ) → ended f.state ≡ true → feeding_after ended advanced f bytes ≡ kept f.awaited f.state
  unfolding feeding_after
  feeding_after-ended f bytes e =
      let s = split f.awaited (f.rest ++ bytes) in
      frames_ended s.frames s.rest f.awaited f.state e

  -- some more bytes after frames
  frames_fed : (frames : List (List ℕ)) (rest more : List ℕ) (a : Awaited) (state : S) (w : Bool) → ended state ≡ w → feeding_after ended advanced (feeding_after_frames ended advanced frames rest a state) more
      ≡ feeding_after_frames ended advanced (frames ++ (split (awaited_after a frames) (rest ++ more)).frames) (split (awaited_after a frames) (rest ++ more)).rest a state
  unfolding feeding_after
  frames_fed [] rest more a state true e =
      let s = split a (rest ++ more) in
      ap (λ (f : Feeding S). feeding_after ended advanced f more) (feeding_in_ended a rest state e)
      ∙ feeding_after-ended (kept a state) more e
      ∙ sym (frames_ended s.frames s.rest a state e)
  frames_fed [] rest more a state false e = ap (λ (f : Feeding S). feeding_after ended advanced f more) (feeding_in_going a rest state e)
  frames_fed (frame ∷ frames) rest more a state true e =
      let s = split (awaited_after a (frame ∷ frames)) (rest ++ more) in
      ap (λ (f : Feeding S). feeding_after ended advanced f more) (frames_ended (frame ∷ frames) rest a state e)
      ∙ feeding_after-ended (kept a state) more e
      ∙ sym (frames_ended ((frame ∷ frames) ++ s.frames) s.rest a state e)
  frames_fed (frame ∷ frames) rest more a state false e =
      let next = advanced state a frame in
      let s = split Fpdu (rest ++ more) in
      ap (λ (f : Feeding S). feeding_after ended advanced f more) (frames_going frame frames rest a state e)
      ∙ frames_fed frames rest more Fpdu next (ended next) refl
      ∙ ap (λ (b : Awaited). feeding_after_frames ended advanced (frames ++ (split b (rest ++ more)).frames) (split b (rest ++ more)).rest Fpdu next) (awaited_after_Fpdu frames)
      ∙ sym (frames_going frame (frames ++ s.frames) s.rest a state e)

  pub feeding_after-append : (f : Feeding S) (x y : List ℕ) → feeding_after ended advanced (feeding_after ended advanced f x) y ≡ feeding_after ended advanced f (x ++ y)
  unfolding feeding_after
  feeding_after-append f x y =
      let s = split f.awaited (f.rest ++ x) in
      frames_fed s.frames s.rest y f.awaited f.state (ended f.state) refl
      ∙ ap (λ (t : Split). feeding_after_frames ended advanced t.frames t.rest f.awaited f.state)
      (sym (ap (split f.awaited) (sym (append_assoc f.rest x y)) ∙ split_append f.awaited (f.rest ++ x) y))

  -- what is kept is less than a frame
  frames_partial : (frames : List (List ℕ)) (rest : List ℕ) (a : Awaited) (state : S) (w : Bool) → ended state ≡ w → IsPartial (awaited_after a frames) rest
      → IsPartial (feeding_after_frames ended advanced frames rest a state).awaited (feeding_after_frames ended advanced frames rest a state).rest
  frames_partial frames rest a state true e p =
      subst (λ (f : Feeding S). IsPartial f.awaited f.rest) (sym (frames_ended frames rest a state e)) (partial_nil a)
  frames_partial [] rest a state false e p =
      subst (λ (f : Feeding S). IsPartial f.awaited f.rest) (sym (feeding_in_going a rest state e)) p
  frames_partial (frame ∷ frames) rest a state false e p =
      let next = advanced state a frame in
      subst (λ (f : Feeding S). IsPartial f.awaited f.rest) (sym (frames_going frame frames rest a state e))
      (frames_partial frames rest Fpdu next (ended next) refl (subst (λ (b : Awaited). IsPartial b rest) (sym (awaited_after_Fpdu frames)) p))

  pub feeding_after-partial : (f : Feeding S) (bytes : List ℕ) → IsPartial (feeding_after ended advanced f bytes).awaited (feeding_after ended advanced f bytes).rest
  unfolding feeding_after
  feeding_after-partial f bytes =
      let s = split f.awaited (f.rest ++ bytes) in
      frames_partial s.frames s.rest f.awaited f.state (ended f.state) refl (split_Splits f.awaited (f.rest ++ bytes)).partial

  -- one step: the state has ended, or else the awaited frame is complete, or it isn't
  pub feeding_after_step-ended : (f : Feeding S) (piece : List ℕ) → ended f.state ≡ true → feeding_after_step ended advanced f piece ≡ kept f.awaited f.state
  unfolding feeding_after_step
  feeding_after_step-ended f piece e =
      ap (λ (w : Bool). cond w (feeding_in ended advanced f.awaited [] f.state) (feeding_step ended advanced f (f.rest ++ piece))) e
      ∙ feeding_in_ended f.awaited [] f.state e

  feeding_after_step-going : (f : Feeding S) (piece : List ℕ) → ended f.state ≡ false → feeding_after_step ended advanced f piece ≡ feeding_step ended advanced f (f.rest ++ piece)
  unfolding feeding_after_step
  feeding_after_step-going f piece e =
      ap (λ (w : Bool). cond w (feeding_in ended advanced f.awaited [] f.state) (feeding_step ended advanced f (f.rest ++ piece))) e

  pub feeding_after_step-whole : (f : Feeding S) (piece : List ℕ) → ended f.state ≡ false → is_whole f.awaited (f.rest ++ piece) ≡ true → feeding_after_step ended advanced f piece
      ≡ kept Fpdu (advanced f.state f.awaited (take (frame_len f.awaited (f.rest ++ piece)) (f.rest ++ piece)))
  feeding_after_step-whole f piece going e =
      feeding_after_step-going f piece going
      ∙ ap (λ (w : Bool). cond w (kept Fpdu (advanced f.state f.awaited (take (frame_len f.awaited (f.rest ++ piece)) (f.rest ++ piece)))) (record { awaited = f.awaited; rest = f.rest ++ piece; state = f.state })) e

  pub feeding_after_step-partial : (f : Feeding S) (piece : List ℕ) → ended f.state ≡ false → is_whole f.awaited (f.rest ++ piece) ≡ false → feeding_after_step ended advanced f piece
      ≡ record { awaited = f.awaited; rest = f.rest ++ piece; state = f.state }
  feeding_after_step-partial f piece going e =
      feeding_after_step-going f piece going
      ∙ ap (λ (w : Bool). cond w (kept Fpdu (advanced f.state f.awaited (take (frame_len f.awaited (f.rest ++ piece)) (f.rest ++ piece)))) (record { awaited = f.awaited; rest = f.rest ++ piece; state = f.state })) e

pub bytes_taken_whole : (a : Awaited) (rest piece : List ℕ) → is_whole a (rest ++ piece) ≡ true → bytes_taken a rest piece ≡ frame_len a (rest ++ piece) - length rest
unfolding bytes_taken
bytes_taken_whole a rest piece e = ap (λ (w : Bool). cond w (frame_len a (rest ++ piece) - length rest) (length piece)) e

pub bytes_taken_partial : (a : Awaited) (rest piece : List ℕ) → is_whole a (rest ++ piece) ≡ false → bytes_taken a rest piece ≡ length piece
unfolding bytes_taken
bytes_taken_partial a rest piece e = ap (λ (w : Bool). cond w (frame_len a (rest ++ piece) - length rest) (length piece)) e

-- the piece is taken as far as it goes
pub bytes_taken_within : (a : Awaited) (rest piece : List ℕ) (w : Bool) → is_whole a (rest ++ piece) ≡ w → bytes_taken a rest piece ≤ length piece
bytes_taken_within a rest piece true e = rw (bytes_taken_whole a rest piece e) (omega (arith, (whole_from a (rest ++ piece) e).frame, length-append rest piece))
bytes_taken_within a rest piece false e = rw (bytes_taken_partial a rest piece e) (omega arith)

module _ {S : Type 0} (ended : S → Bool) (advanced : S → Awaited → List ℕ → S) where
  step_whole : (f : Feeding S) (piece : List ℕ) → IsPartial f.awaited f.rest → ended f.state ≡ false → is_whole f.awaited (f.rest ++ piece) ≡ true
      → feeding_after ended advanced (feeding_after_step ended advanced f piece) (drop (bytes_taken f.awaited f.rest piece) piece) ≡ feeding_after ended advanced f piece
  unfolding feeding_after
  step_whole f piece p going e =
      let bytes = f.rest ++ piece in
      let n = frame_len f.awaited bytes in
      let next = advanced f.state f.awaited (take n bytes) in
      let left : drop (bytes_taken f.awaited f.rest piece) piece ≡ drop n bytes =
      ap (λ (k : ℕ). drop k piece) (bytes_taken_whole f.awaited f.rest piece e)
      ∙ sym (drop_past f.rest piece n (shorter_than_frame f.awaited f.rest piece p)) in
      let s = split Fpdu (drop n bytes) in
      ap (λ (g : Feeding S). feeding_after ended advanced g (drop (bytes_taken f.awaited f.rest piece) piece)) (feeding_after_step-whole ended advanced f piece going e)
      ∙ ap (feeding_after ended advanced (record { awaited = Fpdu; rest = []; state = next })) left
      ∙ sym (frames_going ended advanced (take n bytes) s.frames s.rest f.awaited f.state going)
      ∙ ap (λ (t : Split). feeding_after_frames ended advanced t.frames t.rest f.awaited f.state) (sym (split_whole f.awaited bytes e))

  step_partial : (f : Feeding S) (piece : List ℕ) → ended f.state ≡ false → is_whole f.awaited (f.rest ++ piece) ≡ false
      → feeding_after ended advanced (feeding_after_step ended advanced f piece) (drop (bytes_taken f.awaited f.rest piece) piece) ≡ feeding_after ended advanced f piece
  unfolding feeding_after
  step_partial f piece going e =
      let left : drop (bytes_taken f.awaited f.rest piece) piece ≡ [] =
      ap (λ (k : ℕ). drop k piece) (bytes_taken_partial f.awaited f.rest piece e) ∙ drop_all (length piece) piece (omega arith) in
      ap (λ (g : Feeding S). feeding_after ended advanced g (drop (bytes_taken f.awaited f.rest piece) piece)) (feeding_after_step-partial ended advanced f piece going e)
      ∙ ap (feeding_after ended advanced (record { awaited = f.awaited; rest = f.rest ++ piece; state = f.state })) left
      ∙ ap (λ (bytes : List ℕ). feeding_after_frames ended advanced (split f.awaited bytes).frames (split f.awaited bytes).rest f.awaited f.state) (append-nil (f.rest ++ piece))

  step_by : (f : Feeding S) (piece : List ℕ) (w : Bool) → is_whole f.awaited (f.rest ++ piece) ≡ w → IsPartial f.awaited f.rest → ended f.state ≡ false
      → feeding_after ended advanced (feeding_after_step ended advanced f piece) (drop (bytes_taken f.awaited f.rest piece) piece) ≡ feeding_after ended advanced f piece
  step_by f piece true e p going = step_whole f piece p going e
  step_by f piece false e p going = step_partial f piece going e

  rest_by : (f : Feeding S) (piece : List ℕ) (w : Bool) → ended f.state ≡ w → IsPartial f.awaited f.rest
      → feeding_after ended advanced (feeding_after_step ended advanced f piece) (drop (bytes_taken f.awaited f.rest piece) piece) ≡ feeding_after ended advanced f piece
  rest_by f piece true e p =
      let left = drop (bytes_taken f.awaited f.rest piece) piece in
      let at_end : Feeding S = record { awaited = f.awaited; rest = []; state = f.state } in
      ap (λ (g : Feeding S). feeding_after ended advanced g left) (feeding_after_step-ended ended advanced f piece e)
      ∙ feeding_after-ended ended advanced at_end left e
      ∙ sym (feeding_after-ended ended advanced f piece e)
  rest_by f piece false e p = step_by f piece (is_whole f.awaited (f.rest ++ piece)) refl p e

  -- one step and then what is left of the piece are the piece
  pub feeding_after_step-rest : (f : Feeding S) (piece : List ℕ) → IsPartial f.awaited f.rest
      → feeding_after ended advanced (feeding_after_step ended advanced f piece) (drop (bytes_taken f.awaited f.rest piece) piece) ≡ feeding_after ended advanced f piece
  feeding_after_step-rest f piece = rest_by f piece (ended f.state) refl

  kept_by : (f : Feeding S) (piece : List ℕ) (gone w : Bool) → ended f.state ≡ gone → is_whole f.awaited (f.rest ++ piece) ≡ w
      → IsPartial (feeding_after_step ended advanced f piece).awaited (feeding_after_step ended advanced f piece).rest
  kept_by f piece true w e whole =
      subst (λ (g : Feeding S). IsPartial g.awaited g.rest) (sym (feeding_after_step-ended ended advanced f piece e)) (partial_nil f.awaited)
  kept_by f piece false true e whole =
      subst (λ (g : Feeding S). IsPartial g.awaited g.rest) (sym (feeding_after_step-whole ended advanced f piece e whole)) (partial_nil Fpdu)
  kept_by f piece false false e whole =
      subst (λ (g : Feeding S). IsPartial g.awaited g.rest) (sym (feeding_after_step-partial ended advanced f piece e whole)) (partial_from f.awaited (f.rest ++ piece) whole)

  -- what is kept after one step is less than a frame
  pub feeding_after_step-partial_rest : (f : Feeding S) (piece : List ℕ) → IsPartial (feeding_after_step ended advanced f piece).awaited (feeding_after_step ended advanced f piece).rest
  feeding_after_step-partial_rest f piece = kept_by f piece (ended f.state) (is_whole f.awaited (f.rest ++ piece)) refl refl

  -- an end stays: neither step nor more bytes change it
  pub feeding-ended : (f : Feeding S) (bytes : List ℕ) → ended f.state ≡ true → f.rest ≡ [] → (feeding_after ended advanced f bytes ≡ f) × (feeding_after_step ended advanced f bytes ≡ f)
  feeding-ended f bytes e none =
      let back : record { awaited = f.awaited; rest = []; state = f.state } ≡ f = λ i. record { awaited = f.awaited; rest = sym none i; state = f.state } in
      (feeding_after-ended ended advanced f bytes e ∙ back, feeding_after_step-ended ended advanced f bytes e ∙ back)

-- A piece in two parts: staging the first of them is feeding it.
pub feeding_after_step_staged : {S : Type 0} (ended : S → Bool) (advanced : S → Awaited → List ℕ → S) (f : Feeding S) (x y : List ℕ)
    → feeding_after_step ended advanced (record { awaited = f.awaited; rest = f.rest ++ x; state = f.state }) y ≡ feeding_after_step ended advanced f (x ++ y)
unfolding feeding_after_step
feeding_after_step_staged ended advanced f x y =
    ap (λ (bytes : List ℕ). cond (ended f.state) (feeding_in ended advanced f.awaited [] f.state) (feeding_step ended advanced f bytes)) (append_assoc f.rest x y)

bytes_taken_staged_by : (a : Awaited) (rest x y : List ℕ) (w : Bool) → is_whole a ((rest ++ x) ++ y) ≡ w → IsPartial a (rest ++ x) → bytes_taken a rest (x ++ y) ≡ length x + bytes_taken a (rest ++ x) y
bytes_taken_staged_by a rest x y true e p =
    let same : rest ++ (x ++ y) ≡ (rest ++ x) ++ y = sym (append_assoc rest x y) in
    let whole : is_whole a (rest ++ (x ++ y)) ≡ true = ap (is_whole a) same ∙ e in
    bytes_taken_whole a rest (x ++ y) whole
    ∙ ap (λ (bytes : List ℕ). frame_len a bytes - length rest) same
    ∙ omega (arith, length-append rest x, shorter_than_frame a (rest ++ x) y p, bytes_taken_whole a (rest ++ x) y e)
bytes_taken_staged_by a rest x y false e p =
    let whole : is_whole a (rest ++ (x ++ y)) ≡ false = ap (is_whole a) (sym (append_assoc rest x y)) ∙ e in
    bytes_taken_partial a rest (x ++ y) whole ∙ omega (arith, length-append x y, bytes_taken_partial a (rest ++ x) y e)

pub bytes_taken_staged : (a : Awaited) (rest x y : List ℕ) → IsPartial a (rest ++ x) → bytes_taken a rest (x ++ y) ≡ length x + bytes_taken a (rest ++ x) y
bytes_taken_staged a rest x y p = bytes_taken_staged_by a rest x y (is_whole a ((rest ++ x) ++ y)) refl p

-- fewer bytes than are needed are taken, all of them
pub bytes_taken_less : (a : Awaited) (rest piece : List ℕ) → length piece < bytes_needed a rest → bytes_taken a rest piece ≡ length piece
bytes_taken_less a rest piece lt = bytes_taken_partial a rest piece (partial_not_whole a (rest ++ piece) (needed_less a rest piece lt))

-- if the fields are there and as many bytes come as are needed, those are taken, and the frame is complete
pub bytes_taken_just : (a : Awaited) (rest front back : List ℕ) → IsPartial a rest → fields_len a ≤ length rest → length front ≡ bytes_needed a rest
    → (bytes_taken a rest (front ++ back) ≡ length front) × (is_whole a (rest ++ (front ++ back)) ≡ true)
bytes_taken_just a rest front back p fields e =
    let f : IsFrame a (rest ++ front) = (needed_just a rest front p e).1 fields in
    let at = front_frame a (rest ++ front) back f in
    let same : rest ++ (front ++ back) ≡ (rest ++ front) ++ back = sym (append_assoc rest front back) in
    let whole : is_whole a (rest ++ (front ++ back)) ≡ true = ap (is_whole a) same ∙ at.whole in (
      bytes_taken_whole a rest (front ++ back) whole
          ∙ ap (λ (bytes : List ℕ). frame_len a bytes - length rest) same
          ∙ omega (arith, at.len, length-append rest front),
      whole,
    )
