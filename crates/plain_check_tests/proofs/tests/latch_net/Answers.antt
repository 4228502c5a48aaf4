use Rattle.std.proofs.Common.{◌∙◌, refl}
use Rattle.plain_check_tests.proofs.OneLatch.{few_inputs, latch_in_range, latch_one_driver}
use Rattle.plain_check_tests.proofs.tests.latch_net.Goals as goal

pub returns-clause-in_range : goal.returns-clause-in_range
returns-clause-in_range c =
    latch_in_range _
    (record { 0 = 0 }) (record { 0 = 2 }) (record { 0 = 1 }) (record { 0 = 1 }) (record { 0 = 2 })
    c.in_ok-gate.gate c.in_ok-cover.cover
    (record { input = record { 0 = 0 }; output = record { 0 = 1 }; init = c.args.init })
    (record {
      nets = refl;
      inputs = c.from.ensures ∙ c.in_ok-from_array.ensures.items;
      outputs = c.from-2.ensures ∙ c.in_ok-from_array-2.ensures.items;
      gates = c.from-3.ensures ∙ c.in_ok-from_array-3.ensures.items;
      latches = c.from-4.ensures ∙ c.in_ok-from_array-4.ensures.items;
      covers = c.from-5.ensures ∙ c.in_ok-from_array-5.ensures.items;
      first = refl;
      third = refl;
      second = refl;
      from = refl;
      to = refl;
      gate_inputs = c.in_ok-gate.ensures.inputs;
      gate_left = refl;
      gate_right = refl;
      gate_output = c.in_ok-gate.ensures.output;
      gate_cover = c.in_ok-gate.ensures.cover;
      width = c.in_ok-cover.ensures.inputs;
      sound = c.in_ok-cover.ensures.sound;
    })

pub returns-clause-one_driver : goal.returns-clause-one_driver
returns-clause-one_driver c =
    latch_one_driver _
    (record { 0 = 0 }) (record { 0 = 2 }) (record { 0 = 1 }) (record { 0 = 1 }) (record { 0 = 2 })
    c.in_ok-gate.gate c.in_ok-cover.cover
    (record { input = record { 0 = 0 }; output = record { 0 = 1 }; init = c.args.init })
    (record {
      nets = refl;
      inputs = c.from.ensures ∙ c.in_ok-from_array.ensures.items;
      outputs = c.from-2.ensures ∙ c.in_ok-from_array-2.ensures.items;
      gates = c.from-3.ensures ∙ c.in_ok-from_array-3.ensures.items;
      latches = c.from-4.ensures ∙ c.in_ok-from_array-4.ensures.items;
      covers = c.from-5.ensures ∙ c.in_ok-from_array-5.ensures.items;
      first = refl;
      third = refl;
      second = refl;
      from = refl;
      to = refl;
      gate_inputs = c.in_ok-gate.ensures.inputs;
      gate_left = refl;
      gate_right = refl;
      gate_output = c.in_ok-gate.ensures.output;
      gate_cover = c.in_ok-gate.ensures.cover;
      width = c.in_ok-cover.ensures.inputs;
      sound = c.in_ok-cover.ensures.sound;
    })

pub returns-clause-widths : goal.returns-clause-widths
returns-clause-widths c =
    few_inputs _
    (record { 0 = 0 }) (record { 0 = 2 }) (record { 0 = 1 }) (record { 0 = 1 }) (record { 0 = 2 })
    c.in_ok-gate.gate c.in_ok-cover.cover
    (record { input = record { 0 = 0 }; output = record { 0 = 1 }; init = c.args.init })
    (record {
      nets = refl;
      inputs = c.from.ensures ∙ c.in_ok-from_array.ensures.items;
      outputs = c.from-2.ensures ∙ c.in_ok-from_array-2.ensures.items;
      gates = c.from-3.ensures ∙ c.in_ok-from_array-3.ensures.items;
      latches = c.from-4.ensures ∙ c.in_ok-from_array-4.ensures.items;
      covers = c.from-5.ensures ∙ c.in_ok-from_array-5.ensures.items;
      first = refl;
      third = refl;
      second = refl;
      from = refl;
      to = refl;
      gate_inputs = c.in_ok-gate.ensures.inputs;
      gate_left = refl;
      gate_right = refl;
      gate_output = c.in_ok-gate.ensures.output;
      gate_cover = c.in_ok-gate.ensures.cover;
      width = c.in_ok-cover.ensures.inputs;
      sound = c.in_ok-cover.ensures.sound;
    })
