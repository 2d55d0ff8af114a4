-- The rules by which a call is refused. What a procedure tests is a list of rules in their order, and the first that holds is the answer.
use Rattle.std.specs.Prelude.{ℕ, ◌+◌, ◌/◌, ◌%◌, ◌^◌, ◌<◌, ◌≤◌, ◌==◌, nat_lt, nat_le, nat_eq, Bool, false, not, ◌&&◌, ◌||◌, if◌then◌else◌, List, [], ◌∷◌, length, Option, None, Some, is_none}
use Rattle.std.specs.List.{list_any}
use Rattle.std.specs.Int.{w64, from_be_bytes, to_be_bytes}
use Rattle.std.specs.Cmp.Lexicographic.{pointwise}
use Rattle.std.specs.FinMap.{get}
use Rattle.nr_nfs_base.specs.declared.caller.Caller.{Caller}
use Rattle.nr_nfs_base.specs.declared.status.Status.{Status}
use Rattle.nr_nfs_base.specs.declared.time.Time.{Time}
use Rattle.nr_nfs_base.specs.declared.set_attributes.SetAttributes.{SetAttributes}
use Rattle.nr_nfs_base.specs.declared.set_attributes.SetTime.{SetTime}
use Rattle.nr_nfs_base.specs.declared.set_attributes.SetTime.TheVariants.{Leave, ServerTime, ClientTime}
use Rattle.nr_nfs_base.specs.declared.status.Status.TheVariants.{Acces, Notdir, Nospc, Nametoolong, Stale, Badhandle, Inval, Fbig}
use Rattle.nr_nfs_base.specs.Limits.{name_length_max}
use Rattle.nr_tree.specs.Tree.{Tree, is_dir}
use Rattle.nr_tree.specs.Sane.{file_size_max}
use Rattle.nr_tree.specs.declared.node.Node.{Node}
use Rattle.nr_tree.specs.declared.rules.Right.{Right}
use Rattle.nr_tree.specs.declared.rules.Right.TheVariants.{Read, Write, Execute}
use Rattle.nr_tree.specs.declared.rules.Space.{Space}

-- the first refusal that holds
abbrev pub or_else : Option Status → Option Status → Option Status
or_else None later = later
or_else (Some status) later = Some status

abbrev pub first : List (Option Status) → Option Status
first [] = None
first (rule ∷ rules) = or_else rule (first rules)

-- refused with this status if the test holds
infix 5 ◌⇒◌
abbrev pub ◌⇒◌ : Bool → Status → Option Status
test ⇒ status = if test then Some status else None

-- rules over what may not be there: what comes before them says that it is
abbrev pub on : {A : Type 0} → Option A → (A → List (Option Status)) → List (Option Status)
on None rules = []
on (Some x) rules = rules x

-- the tree after a call: a refused one changes nothing
abbrev pub after : Option Status → Tree → Tree → Tree
after None old new = new
after (Some status) old new = old

-- a call that a rule refuses is answered by fail, and each other by done
abbrev pub answer : {R : Type 0} → Option Status → (Status → R) → R → R
answer None fail done = done
answer (Some status) fail done = fail status

-- a handle of this server is the number in eight bytes
abbrev pub number_of_handle : List ℕ → ℕ
number_of_handle h = from_be_bytes w64 h

abbrev pub handle_of : ℕ → List ℕ
handle_of number = to_be_bytes w64 number

-- the live node that a handle names
abbrev pub node_of_handle : Tree → List ℕ → Option Node
node_of_handle t h = if length h == 8 then get t.nodes (number_of_handle h) else None

-- a handle of this server: a number that was given, in eight bytes. Each number from 1 to below the next one counts as given
abbrev pub was_given : Tree → List ℕ → Bool
was_given t h = (length h == 8) && (nat_lt 0 (number_of_handle h) && nat_lt (number_of_handle h) t.next)

-- NFS3ERR_BADHANDLE for any other handle; NFS3ERR_STALE for that of a node that is gone (RFC 1813 section 2.6)
abbrev pub handle_rule : Tree → List ℕ → Option Status
handle_rule t h = if was_given t h then (is_none (node_of_handle t h) ⇒ Stale) else Some Badhandle

-- a right, as a bit of a class (RFC 1813 section 2.5, the mode of fattr3)
abbrev pub bit_of : Right → ℕ
bit_of Read = 4
bit_of Write = 2
bit_of Execute = 1

abbrev pub is_in_group : Caller → ℕ → Bool
is_in_group c gid = (c.gid == gid) || list_any (λ g. g == gid) c.gids

-- the owner's bits, the group's bits or the others'
abbrev pub class_of : Caller → Node → ℕ
class_of c node =
    if c.uid == node.metadata.uid then node.metadata.mode / 64
    else (if is_in_group c node.metadata.gid then node.metadata.mode / 8
    else node.metadata.mode)

-- uid 0 has every right
abbrev pub may : Caller → Right → Node → Bool
may c right node = (c.uid == 0) || ((class_of c node / bit_of right) % 2 == 1)

-- what is asked of a directory that gets or loses an entry
abbrev pub change_rules : Caller → Node → List (Option Status)
change_rules c node =
    (not (is_dir node) ⇒ Notdir) ∷
    (not (may c Write node) ⇒ Acces) ∷
    (not (may c Execute node) ⇒ Acces) ∷ []

-- a name that no entry may have (RFC 1813 section 3.2)
abbrev pub has_byte : ℕ → List ℕ → Bool
has_byte b bytes = list_any (λ x. x == b) bytes

abbrev pub name_rules : List ℕ → List (Option Status)
name_rules name =
    (length name == 0 ⇒ Acces) ∷
    ((has_byte 0 name || has_byte 47 name) ⇒ Acces) ∷
    (nat_lt name_length_max (length name) ⇒ Nametoolong) ∷ []

abbrev pub same_name : List ℕ → List ℕ → Bool
same_name a b = pointwise nat_eq a b

abbrev pub is_dot : List ℕ → Bool
is_dot name = same_name name (46 ∷ [])

abbrev pub is_dot_dot : List ℕ → Bool
is_dot_dot name = same_name name (46 ∷ 46 ∷ [])

abbrev pub is_dot_name : List ℕ → Bool
is_dot_name name = is_dot name || is_dot_dot name

-- what an entry of the journal costs, beside the bytes of its arguments
abbrev pub entry_cost : ℕ
entry_cost = 64

-- the call's entry would make the journal pass the capacity
abbrev pub space_rule : Space → Option Status
space_rule space = nat_lt space.capacity (space.used + entry_cost + space.arguments) ⇒ Nospc

-- what a procedure asks of the space: the journal is within its capacity, which is far from the end of 64 bits
abbrev pub IsWithinCapacity : Space → Type 0
IsWithinCapacity space = (space.used ≤ space.capacity) × (space.capacity < 2 ^ 63)

-- ===== attributes that a call sets (RFC 1813 section 2.5, sattr3)

-- a number that is given, and is another than the present one
abbrev pub differs_if_given : Option ℕ → ℕ → Bool
differs_if_given None present = false
differs_if_given (Some given) present = not (given == present)

-- How many modes there are. A mode has twelve bits: to set the user id and the group id on execution, to save swapped text, and three rights of
-- each class (RFC 1813 section 2.5, the mode of fattr3). Other bits are dropped.
abbrev pub mode_count : ℕ
mode_count = 4096

-- a client's time has fewer than 10^9 nanoseconds
abbrev pub nanos_per_sec : ℕ
nanos_per_sec = 1000000000

abbrev pub is_invalid_time : SetTime → Bool
is_invalid_time Leave = false
is_invalid_time ServerTime = false
is_invalid_time (ClientTime time) = nat_le nanos_per_sec time.nanoseconds

abbrev pub time_rule : SetAttributes → Option Status
time_rule a = (is_invalid_time a.atime || is_invalid_time a.mtime) ⇒ Inval

-- a size above the maximum of a file
abbrev pub is_too_large : Option ℕ → Bool
is_too_large None = false
is_too_large (Some size) = nat_lt file_size_max size

abbrev pub size_rule : Option ℕ → Option Status
size_rule size = is_too_large size ⇒ Fbig

-- a time after the call: as it was, now, or the client's
abbrev pub time_after : Time → Time → SetTime → Time
time_after now before Leave = before
time_after now before ServerTime = now
time_after now before (ClientTime time) = time
