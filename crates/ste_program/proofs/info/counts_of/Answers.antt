use Rattle.std.proofs.Common.{◌∙◌, ℕ, List, ap, refl}
use Rattle.ste_program.specs.Info.{info_text}
use Rattle.ste_program.proofs.info.counts_of.Goals as goal

pub returns : goal.returns
returns c = λ text models netlist n.
    let net = c.args.flat.now.net.raw in
    let name = c.bytes.ensures ∙ c.top.ensures models n.named in (
      refl,
      record {
        models = models;
        net = net;
        flattened = record { netlist = netlist; sound = n.sound; flat = n.flat; in_range = n.in_range; settled = n.settled };
        written = c.into.ensures ∙ (c.in_ok-bytes.ensures ∙ ap (λ (top : List ℕ). info_text top net) name);
      },
    )
