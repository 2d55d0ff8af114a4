use Rattle.std.proofs.Common.{◌≡◌, length, sym, arith}
use Rattle.nr_reduce.proofs.Compared.{other_length}
use Rattle.nr_reduce.proofs.comparing.returns.Goals as goal

pub returns-then-offered-back : goal.returns-then-offered-back
returns-then-offered-back c =
    sym (other_length c.args.offered.now c.args.back.now (λ e. (let t = c.if-offered-back.true in let h : length c.args.offered.now ≡ length c.args.back.now = e in omega (arith, h, t))))
