use Rattle.instances.proofs.OwnNames.{below_path, top_path}
use Rattle.instances.proofs.own_names.+add_path.Goals as goal

pub returns-in-None : goal.returns-in-None
returns-in-None t c = λ paths links path at. top_path c.args.rows.now c.args.place _ c.requires.place paths links path at c.args.text.now.items c.in-None.is

pub returns-in_ok-add_number-in-Some : goal.returns-in_ok-add_number-in-Some
returns-in_ok-add_number-in-Some t c = λ paths links path at.
    below_path c.args.rows.now c.args.place _ c.requires.place paths links path at c.args.text.now.items c.add_path.new.text.items c.add_number.new.text.items c.in-Some.above c.in-Some.is
    (λ p its. c.in_ok-add_path-in-Some.ensures paths links p its) c.in_ok-add_number-in-Some.ensures
