-- The runs of a hierarchy and of its flat net, one to one.
use Rattle.std.proofs.Common.{◌<◌, ap, length, [], arith}
use Rattle.flat_net.specs.Corresponds.{RunsCorrespond}
use Rattle.hierarchy.specs.Lines.{signals}
use Rattle.hierarchy.specs.Nets.{nets}
use Rattle.flat_net.proofs.Corresponds.{bit_at, starts_flat, starts_hierarchy, to_flat_gate, to_flat_latch, to_formal, to_gate, to_latch}
use Rattle.hierarchy.proofs.Members.{in_at, in_from_contains}
use Rattle.instances.proofs.NoRepeats.{number_of_net}

pub corresponds : RunsCorrespond
corresponds models net shallow flat n = record {
  to_flat = λ run is_run. record {
    gates = λ t in_time k d h. to_flat_gate models net shallow flat n run is_run t in_time _ (in_at net.gates k d h);
    latches = λ t in_time k d h. to_flat_latch models net shallow flat n run is_run t in_time _ (in_at net.latches k d h);
  };
  to_hierarchy = λ bit is_run. record {
    gates = to_gate models net shallow flat n bit is_run;
    latches = to_latch models net shallow flat n bit is_run;
    formals = to_formal models net shallow flat n bit;
  };
  there_and_back = λ run is_run path model e signal h t in_time.
      bit_at models net shallow flat n run is_run path model e signal (in_from_contains (signals model) signal h) t in_time;
  back_and_there = λ bit t id h.
      let k : id < length (nets models) = let same = flat.nets in omega arith in
      ap (λ j. bit t j) (number_of_net models id (record { path = []; signal = [] }) k);
  starts_to_flat = λ reset run some is_run starts k d h.
      starts_flat models net shallow flat n reset run some is_run starts _ (in_at net.latches k d h);
  starts_to_hierarchy = λ reset bit starts. starts_hierarchy models net shallow flat n reset bit starts;
}
