use Rattle.std.proofs.Common.{◌≡◌, ◌∙◌, length, ap, refl}
use Rattle.plain_check_tests.proofs.OneLatch.{one}
use Rattle.plain_check_tests.proofs.tests.and_cover.Goals as goal

pub returns-clause-sound : goal.returns-clause-sound
returns-clause-sound c = record {
  wide =
      one (λ row. length row ≡ 2) _ _ (c.from.ensures ∙ c.in_ok-from_array-2.ensures.items)
      (ap length (c.from-row.ensures ∙ c.in_ok-from_array.ensures.items));
  on = λ e. refl;
}
