-- The sizes of a plan whose Send fits.
use Rattle.std.proofs.Common.{ℕ, ◌^◌, ◌<◌, ◌≤◌, List, [], length, Option, None, Some, arith}
use Rattle.std.specs.Prelude.{IfSome, All}
use Rattle.std.proofs.lemmas.List.Elements.{All-nil, All-cons}
use Rattle.nr_header.specs.declared.header.RdmaSegment.{RdmaSegment}
use Rattle.nr_header.specs.Header.{ChunksFit}
use Rattle.nr_reduce.specs.declared.outline.Plan.{Plan}
use Rattle.nr_reduce.specs.Plans.{plan_size, write_size, reply_size, lists_of, write_list, reply_chunk, segments_from, write_stag, reply_stag}
use Rattle.nr_reduce.proofs.Sizes.{is_formed, segments_count}
use Rattle.nr_requester.specs.HeldBytes.{receive_max}
use Rattle.nr_requester.specs.Sending.{AreFew, IsPlan}

few_write : (w : Option (List ℕ)) → write_size w ≤ receive_max → IfSome w (λ lengths. length lengths < 2 ^ 31)
few_write None h = tt
few_write (Some ls) h = omega (arith, h)

few_reply : (w : Option (List ℕ)) → reply_size w ≤ receive_max → IfSome w (λ lengths. length lengths < 2 ^ 31)
few_reply None h = tt
few_reply (Some ls) h = omega (arith, h)

pub few : (p : Plan) → plan_size p ≤ receive_max → AreFew p
unfolding plan_size
few p h = record { read = omega (arith, h); write = few_write p.write (omega (arith, h)); reply = few_reply p.reply (omega (arith, h)) }

pub plan_fits : (p : Plan) → IsPlan p → plan_size p ≤ receive_max
plan_fits p i = (let fits = (is_formed i.payload i.form i.up i.down p i.is).fits in omega (arith, fits, i.short))

fits_write : (stag : ℕ) (w : Option (List ℕ)) → IfSome w (λ lengths. length lengths < 2 ^ 31) → All (λ chunk. length chunk < 2 ^ 32) (write_list stag w)
fits_write stag None h = All-nil (λ (chunk : List RdmaSegment). length chunk < 2 ^ 32)
fits_write stag (Some ls) h =
    All-cons (λ (chunk : List RdmaSegment). length chunk < 2 ^ 32) (segments_from stag 0 ls) [] (let n = segments_count stag 0 ls in omega (arith, n, h)) (All-nil (λ (chunk : List RdmaSegment). length chunk < 2 ^ 32))

fits_reply_lem : (stag : ℕ) (w : Option (List ℕ)) → IfSome w (λ lengths. length lengths < 2 ^ 31) → IfSome (reply_chunk stag w) (λ chunk. length chunk < 2 ^ 32)
fits_reply_lem stag None h = tt
fits_reply_lem stag (Some ls) h = (let n = segments_count stag 0 ls in omega (arith, n, h))

pub lists_fit_lem : (stag : ℕ) (p : Plan) → AreFew p → ChunksFit (lists_of stag p)
unfolding lists_of
lists_fit_lem stag p f = (fits_write (write_stag stag p) p.write f.write, fits_reply_lem (reply_stag stag p) p.reply f.reply)
