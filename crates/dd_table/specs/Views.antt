-- Meaning: what each step on the table makes of a seat's view.
use Rattle.std.specs.Prelude.{ℕ, ◌+◌, ◌-◌, ◌/◌, [], ◌∷◌, ◌++◌}
use Rattle.std.specs.Ordering.{nat_cmp}
use Rattle.std.specs.FinMap.{FinMap, insert, empty, entries, from_entries}
use Rattle.dd_table.specs.Codes.{ref}
use Rattle.dd_table.specs.Layout.{node_in_word}
use Rattle.dd_table.specs.declared.views.View.{View}
use Rattle.dd_table.specs.declared.rule.Sizes.{Sizes}

-- the view of the seat that a new table has
abbrev pub first_view : Sizes → View
first_view k = record {
  met = empty;
  held = empty;
  last = empty;
  made = [];
  limit = k.slots / 2;
  vars = k.vars;
  slots = k.slots;
}

-- the view of a seat that another took in
abbrev pub spent_view : View
spent_view =
    record { met = empty; held = empty; last = empty; made = []; limit = 0; vars = 0; slots = 0 }

-- the word w was found at the slot s
abbrev pub met_view : View → ℕ → ℕ → View
met_view v s w = record v { met = insert v.met s w }

-- the word w was sought, and found at the slot s
abbrev pub found_view : View → ℕ → ℕ → View
found_view v s w =
    record v { met = insert v.met s w; held = insert v.held (s + 2) (node_in_word w) }

-- the word w was written to the slot s
abbrev pub made_view : View → ℕ → ℕ → View
made_view v s w = record v {
  met = insert v.met s w;
  held = insert v.held (s + 2) (node_in_word w);
  made = v.made ++ ref (s + 2) ∷ [];
}

-- a view that gives up q of its steps
abbrev pub giving_view : ℕ → View → View
giving_view q v = record v { limit = v.limit - q }

-- the view of the new seat that gets them
abbrev pub given_view : ℕ → View → View
given_view q v = record v { made = []; limit = q }

-- the entries of both maps; at a key of both it has the first one's value
abbrev pub union : {X : Type 0} → FinMap nat_cmp X → FinMap nat_cmp X → FinMap nat_cmp X
union a b = from_entries (entries a ++ entries b)

-- a view that took in the view u
abbrev pub joined_view : View → View → View
joined_view v u = record v {
  met = union v.met u.met;
  held = union v.held u.held;
  last = u.held;
  made = v.made ++ u.made;
  limit = v.limit + u.limit;
}
