-- The reasons for which the layer above ends a side.
use Rattle.std.proofs.Common.{inl, inr, refl}
use Rattle.nr_endpoint.specs.Calls.{IsStopReason}

pub stop_17 : IsStopReason 17
stop_17 = inl refl

pub stop_18 : IsStopReason 18
stop_18 = inr (inl refl)

pub stop_19 : IsStopReason 19
stop_19 = inr (inr (inl refl))

pub stop_20 : IsStopReason 20
stop_20 = inr (inr (inr (inl refl)))

pub stop_21 : IsStopReason 21
stop_21 = inr (inr (inr (inr (inl refl))))

pub stop_23 : IsStopReason 23
stop_23 = inr (inr (inr (inr (inr (inl refl)))))

pub stop_29 : IsStopReason 29
stop_29 = inr (inr (inr (inr (inr (inr (inl refl))))))

pub stop_30 : IsStopReason 30
stop_30 = inr (inr (inr (inr (inr (inr (inr (inl refl)))))))
