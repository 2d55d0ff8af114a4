-- A responder that is opened stands for no marks.
use Rattle.std.proofs.Common.{◌≡◌, ℕ, ◌+◌, Bool, false, List, [], Option, None, unwrap_or, refl, sym, ap, subst, arith, inl}
use Rattle.std.specs.FinMap.{get-empty}
use Rattle.std.specs.Ordering.{nat_cmp}
use Rattle.nr_wire.specs.declared.hello.Side.TheVariants.{Initiator, Responder}
use Rattle.nr_link.specs.Input.{initial_input}
use Rattle.nr_regions.specs.RegisteredMemory.{NoneIsDead, initial_memory, held_region}
use Rattle.nr_regions.proofs.Holding.{none_held}
use Rattle.nr_link.specs.declared.agreement.SideTerms.{SideTerms}
use Rattle.nr_link.specs.Agreement.{IsSendLimit}
use Rattle.nr_endpoint.specs.Hellos.{receive_length_for}
use Rattle.nr_endpoint.specs.LinkState.{LinkSide, initial_link, initial_state}
use Rattle.nr_reduce.specs.Opening.{ServerOpened}
use Rattle.nr_reduce.specs.declared.mark.LinkParameters.{LinkParameters}
use Rattle.nr_reduce.specs.ServerState as server
use Rattle.nr_reduce.specs.Server.{initial_server}
use Rattle.nr_reduce.specs.OfferedMemory.{HoldsRegions}
use Rattle.nr_reduce.specs.Standing.{ServerRepresents}
use Rattle.nr_reduce.proofs.Standing.{server_begins_lem}
use Rattle.nr_responder.specs.declared.granting.Credits.{Credits}
use Rattle.nr_responder.specs.Fetching.{nothing_fetched}
use Rattle.nr_responder.specs.Granting.{opened_credits}
use Rattle.nr_responder.specs.ResponderState.{ResponderSide, queue}
use Rattle.nr_responder.specs.Keeping.{IsServer, LinkKeeps, Keeps}
use Rattle.nr_responder.specs.Keeping.Begins.{BeforeHello}
use Rattle.nr_responder.specs.Standing.{RepresentsServer, ResponderRepresents}
use Rattle.nr_responder.proofs.Ends.{ends_none}
use Rattle.nr_responder.proofs.Heard.{first_heard}

abbrev pub opened_state : Credits → LinkSide → ResponderSide
opened_state credits link = record { link = link; calls = []; ready = []; credits = credits; fetching = nothing_fetched }

-- the credits of a server that is opened so
abbrev pub credits_of : LinkParameters → Credits
credits_of opened = record { receives = opened.receives; granted = opened.granted; low = opened.low; word = opened.granted }

no_regions_lem : HoldsRegions [] [] 0 (initial_memory 1)
unfolding held_region initial_memory
no_regions_lem stag = none_held (initial_memory 1) stag (get-empty nat_cmp stag)

none_dead_first : NoneIsDead (initial_memory 1)
unfolding initial_memory
none_dead_first stag = ap (λ (o : Option Bool). unwrap_or o false) (get-empty nat_cmp stag)

server_first : (opened : LinkParameters) → IsServer (server.initial_server_state opened) 0
server_first opened = record {
  offered = tt;
  accesses = tt;
  numbered = tt;
  sinks = tt;
  calls_before = tt;
  reads_before = tt;
  regions_before = tt;
  closed = tt;
  numbers = tt;
  xids = tt;
  ready_xids = tt;
  ready = tt;
  idle = λ e. refl;
  up = (omega arith, omega arith);
  down = (omega arith, omega arith);
}

next_first : (initial_memory 1).next ≡ 1 + 0
unfolding initial_memory
next_first = refl

link_first : (opened : LinkParameters) → LinkKeeps opened (server.initial_server_state opened) (initial_state Responder opened.receives 1 opened.server None)
link_first opened = record {
  live = refl;
  side = refl;
  received = refl;
  receive_length = refl;
  message_max = refl;
  fits = omega arith;
  terms = refl;
  up = refl;
  down = refl;
  invalidates = refl;
  free = omega arith;
  lent = refl;
  told = refl;
  reads = refl;
  memory = no_regions_lem;
  none_dead = none_dead_first;
  next = next_first;
  queue = record { due_is = refl; ends_are = sym (ends_none 0 0); each = tt; sends = refl; requests_are = refl; responses = refl };
}

keeps_first : (opened : LinkParameters) → Keeps opened (server.initial_server_state opened) (initial_input Initiator) (opened_state (credits_of opened) (initial_link Responder opened.receives 1 opened.server None))
unfolding initial_link
keeps_first opened = record {
  link = link_first opened;
  input = record { awaited = refl; rest = refl; place = refl };
  begins = BeforeHello refl refl refl refl;
  server = server_first opened;
  calls = refl;
  ready = refl;
  credits = refl;
  reads = refl;
  sinks = refl;
  payloads = tt;
  quiet = λ e. (refl, refl);
}

queue_first : (opened : LinkParameters) → queue (opened_state (credits_of opened) (initial_link Responder opened.receives 1 opened.server None)) ≡ []
unfolding initial_link
queue_first opened = refl

link_heard : (opened : LinkParameters) → ((initial_link Responder opened.receives 1 opened.server None).state.last ≡ 0) × ((initial_link Responder opened.receives 1 opened.server None).state.client ≡ 0)
unfolding initial_link
link_heard opened = (refl, refl)

pub opened_stands_lem : (opened : LinkParameters) (link : ℕ) (credits low : ℕ) (terms : SideTerms) (l : LinkSide) → ServerOpened opened credits low terms → l ≡ initial_link Responder credits 1 terms None → ResponderRepresents opened link [] (opened_state (opened_credits credits low) l)
opened_stands_lem opened link credits low terms l same is =
    let first : RepresentsServer opened link [] (opened_state (credits_of opened) (initial_link Responder opened.receives 1 opened.server None)) = record {
      end = initial_server opened;
      input = initial_input Initiator;
      stands = subst (λ (bytes : List ℕ). ServerRepresents opened link (initial_server opened) (initial_input Initiator) bytes []) (sym (queue_first opened)) (server_begins_lem opened link);
      keeps = inl (refl, keeps_first opened);
      heard = λ live. first_heard link (initial_link Responder opened.receives 1 opened.server None).state (link_heard opened).0 (link_heard opened).1;
    } in
    let own : credits_of opened ≡ opened_credits credits low = λ i. record { receives = same.1 i; granted = same.0 i; low = same.3 i; word = same.0 i } in
    subst (λ (x : LinkSide). ResponderRepresents opened link [] (opened_state (opened_credits credits low) x)) (sym is)
    (subst (λ (t : SideTerms). ResponderRepresents opened link [] (opened_state (opened_credits credits low) (initial_link Responder credits 1 t None))) same.2
    (subst (λ (n : ℕ). ResponderRepresents opened link [] (opened_state (opened_credits credits low) (initial_link Responder n 1 opened.server None))) same.1
    (subst (λ (c : Credits). ResponderRepresents opened link [] (opened_state c (initial_link Responder opened.receives 1 opened.server None))) own (inl first))))

pub opened_length : (l : LinkSide) (credits : ℕ) (terms : SideTerms) → l ≡ initial_link Responder credits 1 terms None → l.state.receive_queue.receive_length ≡ receive_length_for terms
unfolding initial_link
opened_length l credits terms is = ap (λ (x : LinkSide). x.state.receive_queue.receive_length) is

-- each receive is from one unit to UNITS_MAX of them
pub own_limit : (terms : SideTerms) → IsSendLimit (receive_length_for terms)
own_limit terms = (omega arith, omega arith)

pub opened_lives : (l : LinkSide) (credits : ℕ) (terms : SideTerms) → l ≡ initial_link Responder credits 1 terms None → l.state.ended ≡ None
unfolding initial_link
opened_lives l credits terms is = ap (λ (x : LinkSide). x.state.ended) is

pub opened_queues : (l : LinkSide) (credits : ℕ) (terms : SideTerms) → l ≡ initial_link Responder credits 1 terms None → (l.state.receive_queue.lent ≡ 0) × ((l.state.receive_queue.receives ≡ credits) × (l.state.send_queue.send_ends ≡ []))
unfolding initial_link
opened_queues l credits terms is = (ap (λ (x : LinkSide). x.state.receive_queue.lent) is, (ap (λ (x : LinkSide). x.state.receive_queue.receives) is, ap (λ (x : LinkSide). x.state.send_queue.send_ends) is))
