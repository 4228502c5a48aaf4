-- Gates by their tables: what is found there is the set that the rows give.
use Rattle.std.proofs.Common.{◌≡◌, ◌≢◌, ℕ, zero, suc, Bool, true, false, List, [], ◌∷◌, length, refl, sym, ◌∙◌, ap, subst, arith, Option, Some, None, Result}
use Rattle.std.specs.Prelude.{◌&&◌, ◌||◌}
use Rattle.std.proofs.lemmas.List.Elements.{All-head, All-tail, Contains-append_left, Contains-append_right}
use Rattle.dd_nodes.specs.Stores.{Store}
use Rattle.dd_nodes.specs.Spending.{Has}
use Rattle.dd_nodes.proofs.Spending.{Covers, Means-same}
use Rattle.dd_ops.specs.declared.fault.OpFault.{OpFault}
use Rattle.net_core.specs.declared.cover.Lit.{Lit}
use Rattle.net_core.specs.declared.cover.Lit.TheVariants.{Zero, One, Any}
use Rattle.net_core.specs.Cover.{matches, some_matches}
use Rattle.net_core.specs.Work.{AreWide, SymbolicSet, factor, factors, gate_set, gate_work, product, row_products, rows_work}
use Rattle.net_core.proofs.GateSets.{product_cons, sum_cons}
use Rattle.dual_rail.specs.declared.rails.Rails.{Rails}
use Rattle.dual_rail.specs.Rail.{Built}
use Rattle.dual_rail.proofs.Works.{Built-covers, Built-good}
use Rattle.gate_sets.specs.declared.truth_table.TruthTables.{TruthTables}
use Rattle.gate_sets.specs.private.TruthTables.{AreTables, HasSetOrNot, in_table, some_choice, table_choice}
use Rattle.gate_sets.proofs.Ordered.{total}
use Rattle.gate_sets.proofs.Pairs.{sum_in}
use Rattle.gate_sets.proofs.SomeChoice.{choice_alike, choice_none, choice_or}

-- one more literal keeps the choices that have a bit there which it admits
lit_choice : (lit : Lit) (row : List Lit) (w : SymbolicSet) (ws : List SymbolicSet) (bits : List Bool) → (factor lit w bits && some_choice (matches row) ws bits) ≡ some_choice (matches (lit ∷ row)) (w ∷ ws) bits
lit_choice lit row w ws bits = by lit
  where
    first : (z o a : Bool) → ((z && a) || (o && false)) ≡ (z && a)
    first true true true = refl
    first true true false = refl
    first true false true = refl
    first true false false = refl
    first false true a = refl
    first false false a = refl

    second : (z o a : Bool) → ((z && false) || (o && a)) ≡ (o && a)
    second true o a = refl
    second false o a = refl

    both : (z o a : Bool) → ((z || o) && a) ≡ ((z && a) || (o && a))
    both true true true = refl
    both true true false = refl
    both true false true = refl
    both true false false = refl
    both false o a = refl

    by : (lit : Lit) → (factor lit w bits && some_choice (matches row) ws bits) ≡ some_choice (matches (lit ∷ row)) (w ∷ ws) bits
    by Zero = sym ((λ i. (w.zero bits && some_choice (matches row) ws bits) || (w.one bits && choice_none ws bits i)) ∙ first (w.zero bits) (w.one bits) (some_choice (matches row) ws bits))
    by One = sym ((λ i. (w.zero bits && choice_none ws bits i) || (w.one bits && some_choice (matches row) ws bits)) ∙ second (w.zero bits) (w.one bits) (some_choice (matches row) ws bits))
    by Any = both (w.zero bits) (w.one bits) (some_choice (matches row) ws bits)

-- the product of a row is where the sets have bits that match it
row_choice : (row : List Lit) (ws : List SymbolicSet) (bits : List Bool) → length row ≡ length ws → product (factors row ws) bits ≡ some_choice (matches row) ws bits
row_choice [] [] bits e = refl
row_choice [] (w ∷ ws) bits e = absurd (omega (arith, e))
row_choice (lit ∷ row) [] bits e = absurd (omega (arith, e))
row_choice (lit ∷ row) (w ∷ ws) bits e =
    product_cons (factor lit w) (factors row ws) bits
    ∙ ap (λ b. factor lit w bits && b) (row_choice row ws bits (omega (arith, e)))
    ∙ lit_choice lit row w ws bits

-- the sum of rows is where the sets have bits that one of them matches
total_is_choice : (rows : List (List Lit)) (ws : List SymbolicSet) → AreWide rows (length ws) → (bits : List Bool) → total rows ws bits ≡ some_choice (some_matches rows) ws bits
total_is_choice [] ws wide bits = sym (choice_none ws bits)
total_is_choice (row ∷ rows) ws wide bits =
    sum_cons (product (factors row ws)) (row_products rows ws) bits
    ∙ (λ i. row_choice row ws bits (All-head (λ row. length row ≡ length ws) row rows wide) i || total_is_choice rows ws (All-tail (λ row. length row ≡ length ws) row rows wide) bits i)
    ∙ sym (choice_or (matches row) (some_matches rows) ws bits)

-- so it is where they have bits that are a choice of the rows' table
total_by_table : (rows : List (List Lit)) (ws : List SymbolicSet) (n table : ℕ) → length ws ≡ n → AreWide rows n → ((choice : List Bool) → length choice ≡ n → in_table table choice ≡ some_matches rows choice)
    → (bits : List Bool) → total rows ws bits ≡ table_choice table ws bits
total_by_table rows ws n table long wide told bits =
    total_is_choice rows ws (subst (AreWide rows) (sym long) wide) bits
    ∙ choice_alike (some_matches rows) (in_table table) ws bits (λ choice l. sym (told choice (l ∙ long)))

module _ (on off : List (List Lit)) (ws : List SymbolicSet) (n : ℕ) (tables : TruthTables) (long : length ws ≡ n) (wide_on : AreWide on n) (wide_off : AreWide off n) (told : AreTables on off n tables) where
  -- the sums of the rows are where the tables have a choice
  zero_same : (bits : List Bool) → total off ws bits ≡ table_choice tables.can0 ws bits
  zero_same bits = total_by_table off ws n tables.can0 long wide_off told.zero bits

  one_same : (bits : List Bool) → total on ws bits ≡ table_choice tables.can1 ws bits
  one_same bits = total_by_table on ws n tables.can1 long wide_on told.one bits

  covered : (v : ℕ) → on ≢ [] → off ≢ [] → Covers v (table_choice tables.can0 ws ∷ table_choice tables.can1 ws ∷ []) (gate_work on off ws)
  covered v some_on some_off f (zero, lt, e) =
      subst (Has v (gate_work on off ws)) e (total off ws, Contains-append_right (rows_work on ws) (rows_work off ws) (total off ws) (sum_in off ws some_off), λ bits l. zero_same bits)
  covered v some_on some_off f (suc zero, lt, e) =
      subst (Has v (gate_work on off ws)) e (total on ws, Contains-append_left (rows_work on ws) (rows_work off ws) (total on ws) (sum_in on ws some_on), λ bits l. one_same bits)
  covered v some_on some_off f (suc (suc k), lt, e) = absurd (omega arith)

  rails_same : (t : Store) (found : Option Rails) → HasSetOrNot (record { zero = table_choice tables.can0 ws; one = table_choice tables.can1 ws }) t found → HasSetOrNot (gate_set on off ws) t found
  rails_same t None h = tt
  rails_same t (Some r) h = record {
    zero = Means-same t (table_choice tables.can0 ws) (total off ws) r.can0 (λ bits l. sym (zero_same bits)) h.zero;
    one = Means-same t (table_choice tables.can1 ws) (total on ws) r.can1 (λ bits l. sym (one_same bits)) h.one;
  }

  -- what is found by the tables is found of the rows
  pub by_tables : (s t : Store) (result : Result (Option Rails) OpFault) → on ≢ [] → off ≢ []
      → Built (table_choice tables.can0 ws ∷ table_choice tables.can1 ws ∷ []) (HasSetOrNot (record { zero = table_choice tables.can0 ws; one = table_choice tables.can1 ws })) s t result
      → Built (gate_work on off ws) (HasSetOrNot (gate_set on off ws)) s t result
  by_tables s t result some_on some_off b =
      Built-good (gate_work on off ws) (HasSetOrNot (record { zero = table_choice tables.can0 ws; one = table_choice tables.can1 ws })) (HasSetOrNot (gate_set on off ws)) s t result (λ found h. rails_same t found h)
      (Built-covers (gate_work on off ws) (table_choice tables.can0 ws ∷ table_choice tables.can1 ws ∷ []) (HasSetOrNot (record { zero = table_choice tables.can0 ws; one = table_choice tables.can1 ws })) s t result (covered s.vars some_on some_off) b)
