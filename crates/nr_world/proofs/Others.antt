-- What is done on another link leaves what a link stands for, and so do the clock and the credentials.
use Rattle.std.proofs.Common.{◌≢◌, ℕ, ◌≤◌, List, refl, arith}
use Rattle.nr_rpc.specs.declared.cred.Cred.{Cred}
use Rattle.nr_drill.specs.Drill.{client_of, Setting, Drill}
use Rattle.nr_drill.proofs.Followed.{Extends}
use Rattle.nr_world.specs.DrillLinkState.{DrillLinkState}
use Rattle.nr_world.specs.LinkStands.{LinkStands}
use Rattle.nr_world.proofs.Apart.{stands_by, stands_elsewhere}

pub others_stand : (s : Setting) (acted link : ℕ) (old new : Drill) (v : DrillLinkState) → 1 ≤ acted → client_of s acted ≢ client_of s link → Extends acted old new → LinkStands s link old v → LinkStands s link new v
others_stand s acted link old new v first ne x h = stands_elsewhere s link acted old new v first ne x h

pub link_stays : (s : Setting) (link : ℕ) (d : Drill) (seconds : ℕ) (creds : List Cred) (v : DrillLinkState) → LinkStands s link d v → LinkStands s link (record d { seconds = seconds; creds = creds }) v
link_stays s link d seconds creds v h = stands_by s link d (record d { seconds = seconds; creds = creds }) v refl refl (omega arith) h
