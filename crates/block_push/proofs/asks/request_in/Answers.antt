use mathlib.Core.Path.{sym, ◌∙◌}
use Rattle.block.proofs.Inside.{align-in}
use Rattle.block_push.proofs.asks.request_in.Goals as goal

pub returns : goal.returns
returns c =
    λ i. record {
      align = (c.get32.ensures ∙ sym (align-in c.args.b.now)) i;
      geometry = c.geometry.ensures i;
      sys = c.args.sys;
      start = c.args.start;
      sectors = c.args.sectors;
    }
