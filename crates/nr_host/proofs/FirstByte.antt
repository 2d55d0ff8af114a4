-- A link whose first byte was looked at.
use Rattle.std.proofs.Common.{◌≡◌, ℕ, ◌+◌, ◌<◌, Bool, true, false, List, [], ◌∷◌, ◌++◌, length, Option, None, Some, inl, inr, arith, refl, sym, ap, subst, ◌∙◌, append-nil}
use Rattle.std.specs.Option.{ForSome}
use Rattle.std.specs.Io.KnownBytes.{Appends, Consumes, IsAtEnd, Keeps}
use Rattle.nr_outside.specs.Content.{HandsOut}
use Rattle.nr_outside.specs.declared.moment.Moment.{Moment}
use Rattle.nr_links.specs.Limits.{read_max}
use Rattle.nr_links.specs.Peeked.{PeekedState, before_last, given_without, left_with}
use Rattle.nr_links.proofs.Held.{is_last}
use Rattle.nr_endpoint.specs.LinkState.{initial_link}
use Rattle.nr_wire.specs.declared.hello.Side.TheVariants.{Responder}
use Rattle.nr_responder.specs.ResponderState.{end_of, opened_side}
use Rattle.nr_responder.proofs.Opened.{opened_lives, opened_stands_lem}
use Rattle.nr_plain.specs.History.{PassView}
use Rattle.nr_record_host.specs.RecordRuns.{Around, IsRecordsServed, around}
use Rattle.nr_record_host.specs.declared.record_end.RecordEnd.{RecordEnd}
use Rattle.nr_host.specs.Connections.{Outside, SinkState}
use Rattle.nr_host.specs.Ending.{Ended}
use Rattle.nr_host.specs.LinkServing.{IsHeld, IsKindFor, IsKindOf, IsLinkServed, ServesByByte, ServesLinkBy}
use Rattle.nr_host.specs.Steps.{CarriesTo, IsServed, outside, sink_state, with_failed}
use Rattle.nr_host.specs.declared.connection_limits.ConnectionLimits.{ConnectionLimits}
use Rattle.nr_host.specs.declared.conn_end.ConnEnd.{ConnEnd}
use Rattle.nr_host.specs.declared.conn_end.ConnEnd.TheVariants as ends
use Rattle.nr_host.specs.declared.link_end.LinkEnd.{LinkEnd}
use Rattle.nr_host.specs.declared.link_end.LinkEnd.TheVariants as link_ends
use Rattle.nr_host.proofs.Carries.{first_outside, nothing_read, opened, read_ends, read_fails}
use Rattle.nr_link.specs.Agreement.{terms_with}
use Rattle.nr_host.proofs.Idle.{ends_closed}
use Rattle.nr_host.proofs.Turning.{GrowsByCalls, grown_by_calls, grown_by_turns}

-- ---- bytes that are kept

consumes_none : (left left' : Option (List ℕ)) → Keeps left left' → Consumes left left' []
consumes_none None left' kept = tt
consumes_none (Some xs) None kept = absurd kept
consumes_none (Some xs) (Some ys) kept = sym kept

appends_none : (given given' : Option (List ℕ)) → Keeps given given' → Appends given given' []
appends_none None given' kept = tt
appends_none (Some xs) None kept = absurd kept
appends_none (Some xs) (Some ys) kept = kept ∙ sym (append-nil xs)

hands_none : (left given left' given' : Option (List ℕ)) → Keeps left left' → Keeps given given' → HandsOut left given left' given' []
hands_none left given left' given' kept told = record { from_left = consumes_none left left' kept; to_given = appends_none given given' told }

consumes_on : (left left' left'' : Option (List ℕ)) (bytes : List ℕ) → Keeps left left' → Consumes left' left'' bytes → Consumes left left'' bytes
consumes_on None left' left'' bytes kept c = tt
consumes_on (Some xs) None left'' bytes kept c = absurd kept
consumes_on (Some xs) (Some ys) left'' bytes kept c = subst (λ (l : List ℕ). Consumes (Some l) left'' bytes) kept c

appends_on : (given given' given'' : Option (List ℕ)) (bytes : List ℕ) → Keeps given given' → Appends given' given'' bytes → Appends given given'' bytes
appends_on None given' given'' bytes kept c = tt
appends_on (Some xs) None given'' bytes kept c = absurd kept
appends_on (Some xs) (Some ys) given'' bytes kept c = subst (λ (l : List ℕ). Appends (Some l) given'' bytes) kept c

hands_on : (left given left' given' left'' given'' : Option (List ℕ)) (bytes : List ℕ) → Keeps left left' → Keeps given given' → HandsOut left' given' left'' given'' bytes → HandsOut left given left'' given'' bytes
hands_on left given left' given' left'' given'' bytes kept told h = record {
  from_left = consumes_on left left' left'' bytes kept h.from_left;
  to_given = appends_on given given' given'' bytes told h.to_given;
}

-- ---- a byte that was looked at

handed_alone : (byte : ℕ) (left left' : Option (List ℕ)) → Keeps left (left_with (Some byte) left') → Consumes left left' (byte ∷ [])
handed_alone byte None left' kept = tt
handed_alone byte (Some xs) None kept = absurd kept
handed_alone byte (Some xs) (Some ys) kept = sym kept

given_by : (byte : ℕ) (xs ys : List ℕ) (o : Option (List ℕ)) → before_last byte ys ≡ o → Keeps (Some xs) o → ys ≡ xs ++ byte ∷ []
given_by byte xs ys None is kept = absurd kept
given_by byte xs ys (Some front) is kept = is_last byte ys front is ∙ ap (λ (l : List ℕ). l ++ byte ∷ []) kept

given_alone : (byte : ℕ) (given given' : Option (List ℕ)) → Keeps given (given_without (Some byte) given') → Appends given given' (byte ∷ [])
given_alone byte None given' kept = tt
given_alone byte (Some xs) None kept = absurd kept
given_alone byte (Some xs) (Some ys) kept = given_by byte xs ys (before_last byte ys) refl kept

-- the source handed it out, and no other
pub is_held : (held : Option ℕ) (left given left' given' : Option (List ℕ)) → Keeps left (left_with held left') → Keeps given (given_without held given') → IsHeld held left given left' given'
is_held None left given left' given' kept told = tt
is_held (Some byte) left given left' given' kept told = record { from_left = handed_alone byte left left' kept; to_given = given_alone byte given given' told }

-- what was held at the look, if it is held yet
pub still_held : (held : Option ℕ) (byte : ℕ) (left given left' given' left'' given'' : Option (List ℕ)) → IsHeld (Some byte) left given left' given'
    → ForSome held (λ b. (b ≡ byte) × ((left'' ≡ left') × (given'' ≡ given'))) → IsHeld held left given left'' given''
still_held None byte left given left' given' left'' given'' h same = tt
still_held (Some b) byte left given left' given' left'' given'' h same =
    let (byte_is, (left_is, given_is)) = same b refl in
    subst (λ (t : ℕ × (Option (List ℕ) × Option (List ℕ))). HandsOut left given t.1.0 t.1.1 (t.0 ∷ [])) (λ i. (sym byte_is i, (sym left_is i, sym given_is i))) h

-- It was served as a source of which a byte was looked at: the byte, and the source that was given back, stand in place
-- of what held them.
pub served_looked : {S : Type 0} (left given : S → Option (List ℕ)) (limits : ConnectionLimits) (byte : ℕ) (inner source inner' source' : S) (held held' : Option ℕ) (sink sink' : SinkState) (gave gave' : Option (List Moment)) (view view' : PassView)
    (end : LinkEnd) → inner ≡ source → held ≡ Some byte → source' ≡ inner'
    → ServesByByte limits byte (outside (left_with held (left inner)) (given_without held (given inner)) sink gave view) (outside (left_with held' (left inner')) (given_without held' (given inner')) sink' gave' view') end
    → ServesByByte limits byte (outside (left_with (Some byte) (left source)) (given_without (Some byte) (given source)) sink gave view)
    (outside (left_with held' (left source')) (given_without held' (given source')) sink' gave' view') end
served_looked {S} left given limits byte inner source inner' source' held held' sink sink' gave gave' view view' end same is back served =
    subst (λ (s : S). ServesByByte limits byte (outside (left_with (Some byte) (left s)) (given_without (Some byte) (given s)) sink gave view)
    (outside (left_with held' (left source')) (given_without held' (given source')) sink' gave' view') end) same
    (subst (λ (h : Option ℕ). ServesByByte limits byte (outside (left_with h (left inner)) (given_without h (given inner)) sink gave view)
    (outside (left_with held' (left source')) (given_without held' (given source')) sink' gave' view') end) is
    (subst (λ (s : S). ServesByByte limits byte (outside (left_with held (left inner)) (given_without held (given inner)) sink gave view)
    (outside (left_with held' (left s)) (given_without held' (given s)) sink' gave' view') end) (sym back) served))

-- no byte was held before the look
pub none_held : (left left' : Option (List ℕ)) → Keeps (left_with None left) left' → Keeps left left'
none_held None left' kept = tt
none_held (Some xs) left' kept = kept

-- what a look at a source leaves of it
pub looked : {S : Type 0} (left given : S → Option (List ℕ)) (source source' : S) (p p' : PeekedState S) → p ≡ record { inner = source; held = None } → source' ≡ p'.inner
    → Keeps (left_with p.held (left p.inner)) (left_with p'.held (left p'.inner)) → Keeps (given_without p.held (given p.inner)) (given_without p'.held (given p'.inner))
    → Keeps (left source) (left_with p'.held (left source')) × Keeps (given source) (given_without p'.held (given source'))
looked {S} left given source source' p p' new same kept told = (
  none_held (left source) (left_with p'.held (left source'))
      (subst (λ (s : S). Keeps (left_with None (left source)) (left_with p'.held (left s))) (sym same)
      (subst (λ (q : PeekedState S). Keeps (left_with q.held (left q.inner)) (left_with p'.held (left p'.inner))) new kept)),
  subst (λ (s : S). Keeps (given source) (given_without p'.held (given s))) (sym same)
      (subst (λ (q : PeekedState S). Keeps (given_without q.held (given q.inner)) (given_without p'.held (given p'.inner))) new told),
)

-- ---- nothing was read

module _ (limits : ConnectionLimits) (left given left' given' taken : Option (List ℕ)) (faults : ℕ) (gave : Option (List Moment)) (view : PassView) (kept : Keeps left left') (told : Keeps given given') where
  lives : end_of (opened_side limits.credits limits.low (terms_with limits.units limits.invalidates)) ≡ None
  lives = opened_lives (initial_link Responder limits.credits 1 (terms_with limits.units limits.invalidates) None) limits.credits (terms_with limits.units limits.invalidates) refl

  now : Outside
  now = first_outside left' given' taken faults gave view

  begun : CarriesTo limits (first_outside left given taken faults gave view) (first_outside left' given' taken faults gave view) (opened_side limits.credits limits.low (terms_with limits.units limits.invalidates)) (0 + 0)
  begun =
      nothing_read limits (first_outside left given taken faults gave view) left given left' given' (sink_state taken faults false) gave view (opened_side limits.credits limits.low (terms_with limits.units limits.invalidates)) 0
      (opened left given taken faults gave view limits (opened_side limits.credits limits.low (terms_with limits.units limits.invalidates)) refl lives (λ o link same. opened_stands_lem o link limits.credits limits.low (terms_with limits.units limits.invalidates) (initial_link Responder limits.credits 1 (terms_with limits.units limits.invalidates) None) same refl))
      (hands_none left given left' given' kept told)

  less : 0 + 0 < read_max
  less = omega arith

  -- the read failed
  pub fails_at_once : IsServed limits (first_outside left given taken faults gave view) (first_outside left' given' taken faults gave view) ends.LinkRead
  fails_at_once = read_fails limits (first_outside left given taken faults gave view) (first_outside left' given' taken faults gave view) (opened_side limits.credits limits.low (terms_with limits.units limits.invalidates)) (0 + 0) begun lives less refl

  -- the client ended its stream
  pub closes_at_once : IsAtEnd left' → IsServed limits (first_outside left given taken faults gave view) (first_outside left' given' taken faults gave view) ends.Closed
  unfolding initial_link
  closes_at_once over =
      read_ends limits (first_outside left given taken faults gave view) (first_outside left' given' taken faults gave view) (opened_side limits.credits limits.low (terms_with limits.units limits.invalidates)) 0 ends.Closed begun over
      (ends_closed 0 (opened_side limits.credits limits.low (terms_with limits.units limits.invalidates)) lives refl refl) refl refl less refl

-- the first read failed, or handed out nothing
pub kind_failed : (left left' : Option (List ℕ)) → Keeps left left' → IsKindFor left left' (link_ends.Rdma ends.LinkRead)
kind_failed None left' kept = tt
kind_failed (Some []) left' kept = kept
kind_failed (Some (x ∷ xs)) left' kept = inr kept

pub kind_closed : (left left' : Option (List ℕ)) → Keeps left left' → IsAtEnd left' → IsKindFor left left' (link_ends.Rdma ends.Closed)
kind_closed None left' kept over = tt
kind_closed (Some []) left' kept over = (kept, over)
kind_closed (Some (x ∷ xs)) left' kept over = inr (kept, over)

-- ---- it was served after the look

module _ (left given left' given' : Option (List ℕ)) (sink : SinkState) (gave : Option (List Moment)) (view : PassView) (kept : Keeps left left') (told : Keeps given given') where
  ended_on : (limits : ConnectionLimits) (read link : ℕ) (after : Outside) (end : ConnEnd) → Ended limits read link (outside left' given' sink gave view) after end
      → Ended limits read link (outside left given sink gave view) after end
  ended_on limits read link after end e = record {
    run = e.run;
    ahead = e.ahead;
    more = e.more;
    runs = record {
      own = e.runs.own;
      handed = hands_on left given left' given' after.left after.given _ kept told e.runs.handed;
      taken = e.runs.taken;
      served = e.runs.served;
      quiet = e.runs.quiet;
      writes = e.runs.writes;
      frames = e.runs.frames;
      turns = e.runs.turns;
      handled = e.runs.handled;
      over = e.runs.over;
      greeted = e.runs.greeted;
      gave = e.runs.gave;
      count = e.runs.count;
    };
    ahead_is = e.ahead_is;
    more_is = e.more_is;
    read_is = e.read_is;
    failed_is = e.failed_is;
    cause = e.cause;
  }

  served_on : (limits : ConnectionLimits) (after : Outside) (end : ConnEnd) → IsServed limits (outside left' given' sink gave view) after end → IsServed limits (outside left given sink gave view) after end
  served_on limits after end s link = let (read, (failed, e)) = s link in (read, (failed, ended_on limits read link (with_failed failed after) end e))

  records_on : (after : Around) (end : RecordEnd) → IsRecordsServed (around left' given' sink.taken gave view) after end → IsRecordsServed (around left given sink.taken gave view) after end
  records_on after end s = record {
    stream = s.stream;
    unread = s.unread;
    records = s.records;
    rest = s.rest;
    exchanges = s.exchanges;
    others = s.others;
    more = s.more;
    took = s.took;
    encode = s.encode;
    limit = s.limit;
    order = s.order;
    serves = record {
      handed = hands_on left given left' given' after.left after.given (s.stream ++ s.unread) kept told s.serves.handed;
      taken = s.serves.taken;
      over = s.serves.over;
      gave = s.serves.gave;
    };
    within = s.within;
    unread_is = s.unread_is;
    took_is = s.took_is;
    more_is = s.more_is;
    cause = s.cause;
  }

  pub link_on : (limits : ConnectionLimits) (after : Outside) (end : LinkEnd) → ServesLinkBy limits (outside left' given' sink gave view) after end → ServesLinkBy limits (outside left given sink gave view) after end
  link_on limits after (link_ends.Rdma end) s = served_on limits after end s
  link_on limits after (link_ends.Record end) s = records_on (around after.left after.given after.sink.taken after.gave after.view) end s

-- the byte that was looked at is the first that was still to come
pub kind_is : (byte : ℕ) (held : Option ℕ) (left inner after : Option (List ℕ)) (end : LinkEnd) → held ≡ Some byte → Keeps left (left_with held inner) → IsKindOf byte end → IsKindFor left after end
kind_is byte held left inner after end is kept kind = by_left left inner (subst (λ (h : Option ℕ). Keeps left (left_with h inner)) is kept) where
  first : (x : ℕ) (rest l : List ℕ) → byte ∷ l ≡ x ∷ rest → byte ≡ x
  first x rest l e = ap (λ (xs : List ℕ). head_or xs) e where
    head_or : List ℕ → ℕ
    head_or [] = 0
    head_or (y ∷ ys) = y

  by_left : (left inner : Option (List ℕ)) → Keeps left (left_with (Some byte) inner) → IsKindFor left after end
  by_left None inner k = tt
  by_left (Some []) None k = absurd k
  by_left (Some []) (Some l) k = absurd (let n = ap length k in omega (arith, n))
  by_left (Some (x ∷ rest)) None k = absurd k
  by_left (Some (x ∷ rest)) (Some l) k = inl (subst (λ (b : ℕ). IsKindOf b end) (first x rest l k) kind)

-- ---- what its pass did

pub grown_link : (limits : ConnectionLimits) (records : Bool) (before after : Outside) (end : LinkEnd) → IsLinkServed limits records before after end → GrowsByCalls before.view after.view
grown_link limits false before after (link_ends.Rdma end) s = let (read, (failed, e)) = s 0 in grown_by_turns before.view after.view _ e.runs.turns e.runs.over
grown_link limits false before after (link_ends.Record end) s = absurd s
grown_link limits true before after (link_ends.Rdma end) s = let (read, (failed, e)) = s.serves 0 in grown_by_turns before.view after.view _ e.runs.turns e.runs.over
grown_link limits true before after (link_ends.Record end) s = grown_by_calls before.view after.view s.serves.exchanges s.serves.serves.over

-- ---- the same, seen from outside

pub link_same : (limits : ConnectionLimits) (records : Bool) (before before' after after' : Outside) (end : LinkEnd) → before ≡ before' → after ≡ after' → IsLinkServed limits records before after end
    → IsLinkServed limits records before' after' end
link_same limits records before before' after after' end same same' served =
    subst (λ (o : Outside). IsLinkServed limits records o after' end) same (subst (λ (o : Outside). IsLinkServed limits records before o end) same' served)
