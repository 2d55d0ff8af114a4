-- The plan of a call whose payload is bytes is of bytes.
use Rattle.std.proofs.Common.{ℕ, subst}
use Rattle.nr_xdr.specs.Item.{IsBytes}
use Rattle.nr_reduce.specs.declared.call.Call.{Call}
use Rattle.nr_reduce.specs.declared.call.Form.{Form}
use Rattle.nr_reduce.specs.declared.outline.Plan.{Plan}
use Rattle.nr_reduce.specs.Asked.{IsPlannedAs}
use Rattle.nr_reduce.specs.ClientState.{call_payload}
use Rattle.nr_byte_laws.proofs.ByteClients.{PlansBytes, plan_bytes}

pub planned_bytes : (xid : ℕ) (call : Call) (form : Form) (plan : Plan) → IsPlannedAs xid call form plan → IsBytes (call_payload xid call) → IsBytes plan.inline × IsBytes plan.region
planned_bytes xid call form plan p bytes = subst PlansBytes p.planned (plan_bytes (call_payload xid call) form p.up p.down bytes)
