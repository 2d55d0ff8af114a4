-- The journal that a server stands for.
use Rattle.std.specs.Prelude.{◌≡◌, ℕ, ◌+◌, ◌*◌, ◌<◌, ◌≤◌, ◌^◌, List, ◌++◌, length, Option, None, Some, Result, Err, All, refl}
use Rattle.std.specs.FinMap.{empty}
use Rattle.std.specs.Coded.{Coded, code_by, coded×, coded_ℕ, coded_list}
use Rattle.nr_cache.specs.Caches.{Clients, RemembersAll, clients_code}
use Rattle.nr_cache.specs.Entries.{KeptEntry}
use Rattle.nr_rpc.specs.declared.head.CallHead.{CallHead}
use Rattle.nr_reduce.specs.declared.mark.Entry.{Entry}
use Rattle.nr_outside.specs.declared.moment.Moment.{Moment}
use Rattle.nr_tree.specs.Code.{tree_code}
use Rattle.nr_tree.specs.Rules.{entry_cost}
use Rattle.nr_tree.specs.Sane.{IsSane}
use Rattle.nr_tree.specs.Steps.{IsBelow}
use Rattle.nr_tree.specs.Tree.{Tree}
use Rattle.nr_plain.specs.Setup.{Parameters, Setup, State}
use Rattle.nr_plain.specs.Journal.{state_after, tree_at, cost_of}
use Rattle.nr_plain.specs.Replies.{plain_reply}
use Rattle.nr_plain.specs.ReplySizes.{reply_max}
use Rattle.nr_plain.specs.Added.{entries_of_call}
use Rattle.nr_plain.specs.declared.fault.Fault.{Fault}
use Rattle.nr_plain.specs.declared.fault.Fault.TheVariants as faults

-- What a server keeps: the tree, the length and the cost of the journal, and what it was opened with but for the first tree; and the replies
-- of clients that have a number.
pub record PlainServerState : Type 0 where
  pub tree : Tree
  pub count : ℕ
  pub cost : ℕ
  pub parameters : Parameters
  pub cache : Clients

-- opened with this setup, and after these entries
pub record RepresentsJournal (s : Setup) (J : List Entry) (kept : PlainServerState) : Type 0 where
  pub tree : kept.tree ≡ tree_at s J (length J)
  pub cost : kept.cost ≡ cost_of s J (length J)
  pub count : kept.count ≡ length J
  pub parameters : kept.parameters ≡ s.parameters

-- A call was executed after the entries J: its reply is that of the plain server at its place in the journal, its place is the number of
-- entries before it, and then the server stands for the journal with the entry of the call, if it has one.
pub record ExecutesCall (s : Setup) (J : List Entry) (m : Moment) (payload reply : List ℕ) (place : ℕ) (kept : PlainServerState) : Type 0 where
  pub replied : plain_reply s J place m payload ≡ Some reply
  pub place_is : place ≡ length J
  pub stands : RepresentsJournal s (J ++ entries_of_call m payload reply) kept

-- NotCall at the first item that fails of a payload without a call head; out of memory has no cause; no call is old
abbrev pub IsCause : Fault → Result CallHead ℕ → Type 0
IsCause (faults.NotCall at) read = read ≡ Err at
IsCause faults.Memory read = Unit {0}
IsCause (faults.Old top) read = ⊥

-- the replies that are remembered are those of some changes, so none is long
pub record RemembersChanges (C : Clients) : Type 0 where
  pub entries : List KeptEntry
  pub are : RemembersAll entries C
  pub short : All (λ (e : KeptEntry). length e.reply ≤ reply_max) entries

-- Far from the end of 64 bits: each entry raises the next number and each next cookie by one at most, and costs at least entry_cost.
pub record IsServing (kept : PlainServerState) : Type 0 where
  pub sane : IsSane kept.tree
  pub below : IsBelow (2 ^ 62 + kept.count) kept.tree
  pub counted : entry_cost * kept.count ≤ kept.cost
  pub within : kept.cost ≤ kept.parameters.capacity
  pub capacity : kept.parameters.capacity < 2 ^ 63
  pub remembers : RemembersChanges kept.cache

-- ===== for the code

-- a server makes its cache with the first change of a numbered client
abbrev pub cache_kept : Option Clients → Clients
cache_kept None = empty
cache_kept (Some C) = C

abbrev pub state_kept : PlainServerState → State
state_kept kept = record { tree = kept.tree; cost = kept.cost }

-- what is kept after some more entries
abbrev pub server_with_state : PlainServerState → ℕ → State → PlainServerState
server_with_state kept more st = record { tree = st.tree; count = kept.count + more; cost = st.cost; parameters = kept.parameters; cache = kept.cache }

abbrev pub state_after_answer : PlainServerState → List Entry → PlainServerState
state_after_answer kept es = server_with_state kept (length es) (state_after kept.parameters (state_kept kept) es)

abbrev pub parameters_code : Coded Parameters
parameters_code =
    code_by (ℕ × (ℕ × List ℕ)) (coded× coded_ℕ (coded× coded_ℕ (coded_list coded_ℕ))) (λ p. (p.capacity, (p.verifier.number, p.export)))
    (λ p. record { capacity = p.0; verifier = record { number = p.1.0 }; export = p.1.1 }) (λ _. refl)

abbrev pub kept_code : Coded PlainServerState
kept_code =
    code_by (Tree × (ℕ × (ℕ × (Parameters × Clients)))) (coded× tree_code (coded× coded_ℕ (coded× coded_ℕ (coded× parameters_code clients_code))))
    (λ k. (k.tree, (k.count, (k.cost, (k.parameters, k.cache))))) (λ p. record { tree = p.0; count = p.1.0; cost = p.1.1.0; parameters = p.1.1.1.0; cache = p.1.1.1.1 }) (λ _. refl)
