-- The run that is made from a list of choices has these choices.
use Rattle.std.proofs.Common.{◌≡◌, ℕ, zero, suc, ◌+◌, ◌*◌, ◌<◌, ◌≤◌, Bool, true, false, not, List, [], ◌∷◌, ◌++◌, map, take, drop, length, get_or, arith, refl, sym, ◌∙◌, ap, subst, Option}
use Rattle.std.specs.Prelude.{All, IsTrue, if◌then◌else◌, ◌||◌, ◌&&◌, nat_lt}
use Rattle.std.proofs.Math.Nat.{suc-mul, zero-mul}
use Rattle.std.proofs.Math.Seq.{take-add, take-suc}
use Rattle.std.proofs.lemmas.List.{length-append, length-drop, length-map, map-append}
use Rattle.std.proofs.lemmas.List.Elements.{All-cons, All-nil}
use Rattle.std.proofs.lemmas.Option.{slice_get-get_or}
use Rattle.clock_step.specs.Order.{is_undriven, is_undriven_source}
use Rattle.net_core.specs.declared.raw.Init.{Init}
use Rattle.net_core.specs.declared.raw.Init.TheVariants as init
use Rattle.net_core.specs.declared.raw.Latch.{Latch}
use Rattle.net_core.specs.declared.raw.RawNet.{RawNet}
use Rattle.net_core.specs.declared.source.Source.{Source}
use Rattle.net_core.specs.declared.source.Source.TheVariants as source
use Rattle.net_core.specs.Flat.{HasOneDriver}
use Rattle.net_core.specs.Run.{IsInitial}
use Rattle.net_core.specs.Source.{source_of}
use Rattle.net_core.proofs.OneTime.{Facts, facts}
use Rattle.ste_base.specs.declared.id.NodeId.{NodeId}
use Rattle.ste_model.specs.declared.run.Run.{Run}
use Rattle.ste_model.specs.declared.task.Assertion.{Assertion}
use Rattle.ste_model.specs.Asked.{depth}
use Rattle.ste_model.specs.Holds.{IsTaskRun}
use Rattle.ste_model.specs.Runs.{run_of}
use Rattle.counter_run.specs.Runs.{IsRunOn}
use Rattle.counter_run.specs.Undriven.{undriven_below, undriven_nets}
use Rattle.exact_model.specs.Choices.{Cell, bits_at, cells_at, choices, input_cells, is_first_choice, is_free, is_open, starts_free}
use Rattle.exact_engine.specs.private.Counts.{first_count, first_test, open_count, open_test}
use Rattle.exact_engine.specs.private.Running.{AreInputRows, AreNetChoices, IsRunWith, start_bit}
use Rattle.exact_engine.proofs.Counted.{choices_long}

abbrev cell : ℕ → ℕ → Cell
cell t id = record { time = t; net = id }

-- ---- lists

map_map : {X Y Z : Type 0} (f : X → Y) (g : Y → Z) (xs : List X) → map g (map f xs) ≡ map (λ x. g (f x)) xs
map_map f g [] = refl
map_map f g (x ∷ xs) = ap (λ ys. g (f x) ∷ ys) (map_map f g xs)

same_each : {X : Type 0} (f g : X → Bool) (xs : List X) → map f xs ≡ map g xs → All (λ x. f x ≡ g x) xs
same_each f g [] e = All-nil (λ x. f x ≡ g x)
same_each f g (x ∷ xs) e =
    let here : f x ≡ g x = cc e in
    let rest : map f xs ≡ map g xs = cc e in
    All-cons (λ x. f x ≡ g x) x xs here (same_each f g xs rest)

-- ---- first values

pub may_start : (reset : Bool) (start : Init) (bit : Bool) → IsTrue reset → IsInitial start (start_bit reset start bit)
may_start false start bit on = absurd (cc on)
may_start true init.Zero bit on = refl
may_start true init.One bit on = refl
may_start true init.Free bit on = tt

start_free : (reset : Bool) (start : Init) (bit : Bool) → (not reset || is_free start) ≡ true → start_bit reset start bit ≡ bit
start_free false start bit h = refl
start_free true init.Zero bit h = absurd (cc h)
start_free true init.One bit h = absurd (cc h)
start_free true init.Free bit h = refl

some_latch : Latch
some_latch = record { input = record { 0 = 0 }; output = record { 0 = 0 }; init = init.Free }

-- ---- the cells of one time

module _ (run : ℕ → ℕ → Bool) (passes : ℕ → Bool) (bits : List Bool) where
  -- where each net that passes has the bit of its place, the bits are the first of the list
  first_cells : (n : ℕ) → length (cells_at passes 0 n) ≤ length bits → ((id : ℕ) → id < n → IsTrue (passes id) → run 0 id ≡ get_or bits (length (cells_at passes 0 id)) false) → bits_at (cells_at passes 0 n) run ≡ take (length (cells_at passes 0 n)) bits
  first_cells zero within each = refl
  first_cells (suc n) within each = by (passes n) refl within (first_cells n)
    where
      by : (b : Bool) → passes n ≡ b → length (if b then cells_at passes 0 n ++ cell 0 n ∷ [] else cells_at passes 0 n) ≤ length bits
          → (length (cells_at passes 0 n) ≤ length bits → ((id : ℕ) → id < n → IsTrue (passes id) → run 0 id ≡ get_or bits (length (cells_at passes 0 id)) false) → bits_at (cells_at passes 0 n) run ≡ take (length (cells_at passes 0 n)) bits)
          → bits_at (if b then cells_at passes 0 n ++ cell 0 n ∷ [] else cells_at passes 0 n) run ≡ take (length (if b then cells_at passes 0 n ++ cell 0 n ∷ [] else cells_at passes 0 n)) bits
      by false e inside rest = rest inside (λ id l h. each id (omega arith) h)
      by true e inside rest =
          let l : ℕ = length (cells_at passes 0 n) in
          let more : length (cells_at passes 0 n ++ cell 0 n ∷ []) ≡ l + 1 = length-append (cells_at passes 0 n) (cell 0 n ∷ []) in
          let below : l < length bits = omega (arith, inside, more) in
          let here : run 0 n ≡ get_or bits l false = each n (omega arith) e in
          map-append (λ (c : Cell). run c.time c.net) (cells_at passes 0 n) (cell 0 n ∷ [])
          ∙ ap (λ (xs : List Bool). xs ++ run 0 n ∷ []) (rest (omega (arith, below)) (λ id m h. each id (omega (arith, m)) h))
          ∙ ap (λ (b : Bool). take l bits ++ b ∷ []) here
          ∙ sym (take-suc bits l false below)
          ∙ ap (λ (k : ℕ). take k bits) (let f : suc l ≡ length (cells_at passes 0 n ++ cell 0 n ∷ []) = omega (arith, more) in f)

-- ---- the inputs and free nets of one time

same_source : (s : Source) → is_undriven_source s ≡ is_open s
same_source source.Input = refl
same_source source.Free = refl
same_source (source.Gate g) = refl
same_source (source.Latch l) = refl

module _ (net : RawNet) (run : ℕ → ℕ → Bool) (t : ℕ) where
  same_test : (id : ℕ) → id < net.nets → is_undriven net id ≡ open_test net id
  same_test id l =
      let below : nat_lt id net.nets ≡ true = grind (arith, l) in
      ap (λ (b : Bool). b && is_undriven_source (source_of net id)) below ∙ same_source (source_of net id)

  open_cells : (n : ℕ) → n ≤ net.nets → bits_at (cells_at (open_test net) t n) run ≡ map (λ node. run t node.0) (undriven_below net n)
  open_cells zero l = refl
  open_cells (suc n) l = by (open_test net n) (is_undriven net n) (same_test n (omega (arith, l))) (open_cells n (omega (arith, l)))
    where
      by : (a b : Bool) → b ≡ a → bits_at (cells_at (open_test net) t n) run ≡ map (λ node. run t node.0) (undriven_below net n)
          → bits_at (if a then cells_at (open_test net) t n ++ cell t n ∷ [] else cells_at (open_test net) t n) run
          ≡ map (λ node. run t node.0) (if b then undriven_below net n ++ (record { 0 = n }) ∷ [] else undriven_below net n)
      by true true e rest =
          map-append (λ (c : Cell). run c.time c.net) (cells_at (open_test net) t n) (cell t n ∷ [])
          ∙ ap (λ (xs : List Bool). xs ++ run t n ∷ []) rest
          ∙ sym (map-append (λ (k : NodeId). run t k.0) (undriven_below net n) ((record { 0 = n }) ∷ []))
      by false false e rest = rest
      by true false e rest = absurd (cc e)
      by false true e rest = absurd (cc e)

pub undriven_long : (net : RawNet) → length (undriven_nets net) ≡ open_count net
undriven_long net =
    let run : ℕ → ℕ → Bool = λ t id. false in
    sym (length-map (undriven_nets net) (λ (k : NodeId). run 0 k.0))
    ∙ ap (λ (xs : List Bool). length xs) (sym (open_cells net run 0 net.nets (omega arith)))
    ∙ length-map (cells_at (open_test net) 0 net.nets) (λ (c : Cell). run c.time c.net)

-- ---- the run

module _ (net : RawNet) (task : Assertion) (driver : HasOneDriver net) (bits firsts : List Bool) (inputs : List (List Bool)) (told : Run) (inside : 0 < depth task) (long : length (choices net task) ≤ length bits) (chosen : AreNetChoices net task.reset bits firsts) (rows : AreInputRows (drop (first_count net task.reset) bits) (open_count net) (depth task) inputs) (is : IsRunOn net (depth task) inputs (map (λ (latch : Latch). start_bit task.reset latch.init (get_or firsts latch.output.0 false)) net.latches) told) where
  abbrev run : ℕ → ℕ → Bool
  run = run_of told

  abbrev begins : Latch → Bool
  begins latch = start_bit task.reset latch.init (get_or firsts latch.output.0 false)

  begun : All (λ latch. run 0 latch.output.0 ≡ begins latch) net.latches
  begun = same_each (λ (latch : Latch). run 0 latch.output.0) begins net.latches (is.starts inside)

  task_run : IsTaskRun net task.reset (depth task) run
  task_run = record {
    is_run = is.is_run;
    starts = λ l k d m on.
        let latch = get_or net.latches k d in
        subst (IsInitial latch.init) (sym (begun k d m)) (may_start task.reset latch.init (get_or firsts latch.output.0 false) on);
  }

  first_value : (id : ℕ) (s : Source) → Facts net id s → id < net.nets → IsTrue (is_first_choice net task.reset s) → run 0 id ≡ get_or bits (length (cells_at (first_test net task.reset) 0 id)) false
  first_value id source.Input f l h = absurd (cc h)
  first_value id source.Free f l h = absurd (cc h)
  first_value id (source.Gate g) f l h = absurd (cc h)
  first_value id (source.Latch n) f l h =
      let latch = get_or net.latches n some_latch in
      let free : (not task.reset || is_free latch.init) ≡ true = subst (λ (o : Option Latch). IsTrue (starts_free task.reset o)) (slice_get-get_or net.latches n some_latch f.0) h in
      let here : run 0 latch.output.0 ≡ get_or firsts latch.output.0 false = begun n some_latch f.0 ∙ start_free task.reset latch.init (get_or firsts latch.output.0 false) free in
      subst (λ (k : ℕ). run 0 k ≡ get_or firsts k false) (f.1 some_latch) here ∙ chosen id l

  abbrev fc : ℕ
  fc = first_count net task.reset

  abbrev each : ℕ
  each = open_count net

  firsts_are : bits_at (cells_at (first_test net task.reset) 0 net.nets) run ≡ take fc bits
  firsts_are = first_cells run (first_test net task.reset) bits net.nets (let e = choices_long net task in omega (arith, e, long)) (λ id l h. first_value id (source_of net id) (facts net driver id) l h)

  abbrev rest : List Bool
  rest = drop fc bits

  column : (t : ℕ) → t < depth task → bits_at (cells_at (open_test net) t net.nets) run ≡ take each (drop (t * each) rest)
  column t l =
      open_cells net run t net.nets (omega arith)
      ∙ sym (map_map (λ (node : NodeId). get_or told.rows node.0 []) (λ (row : List Bool). get_or row t false) (undriven_nets net))
      ∙ ap (λ (xs : List (List Bool)). map (λ (row : List Bool). get_or row t false) xs) is.sources
      ∙ rows.columns t l

  inputs_are : (n : ℕ) → n ≤ depth task → bits_at (input_cells net n) run ≡ take (n * each) rest
  inputs_are zero l = ap (λ (k : ℕ). take k rest) (sym (zero-mul each))
  inputs_are (suc n) l =
      map-append (λ (c : Cell). run c.time c.net) (input_cells net n) (cells_at (open_test net) n net.nets)
      ∙ ap (λ (xs : List Bool). xs ++ bits_at (cells_at (open_test net) n net.nets) run) (inputs_are n (omega (arith, l)))
      ∙ ap (λ (xs : List Bool). take (n * each) rest ++ xs) (column n (omega (arith, l)))
      ∙ sym (take-add (n * each) each rest)
      ∙ ap (λ (k : ℕ). take k rest) (sym (suc-mul n each))

  pub with_choices : IsRunWith net task bits told
  with_choices = record {
    rows = is.rows;
    is_run = task_run;
    chosen =
        map-append (λ (c : Cell). run c.time c.net) (cells_at (first_test net task.reset) 0 net.nets) (input_cells net (depth task))
        ∙ ap (λ (xs : List Bool). xs ++ bits_at (input_cells net (depth task)) run) firsts_are
        ∙ ap (λ (xs : List Bool). take fc bits ++ xs) (inputs_are (depth task) (omega arith))
        ∙ sym (take-add fc (depth task * each) bits)
        ∙ ap (λ (k : ℕ). take k bits) (sym (choices_long net task));
  }

-- ---- as it is called

-- behind the first values there is room for all inputs
pub rest_fits : (net : RawNet) (task : Assertion) (bits rest : List Bool) (times each count : ℕ) → times ≡ depth task → each ≡ open_count net → count ≡ first_count net task.reset → rest ≡ drop count bits → length (choices net task) ≤ length bits → times * each ≤ length rest
rest_fits net task bits rest times each count t e f is long =
    let all = choices_long net task in
    let fc : ℕ = first_count net task.reset in
    let inputs : ℕ = depth task * open_count net in
    let same : times * each ≡ inputs = ap (λ (n : ℕ). n * each) t ∙ ap (λ (n : ℕ). depth task * n) e in
    let cut : length rest ≡ length (drop fc bits) = ap (λ (xs : List Bool). length xs) (is ∙ ap (λ (n : ℕ). drop n bits) f) in
    let room : inputs ≤ length (drop fc bits) = simp (length-drop) (omega (arith, all, long)) in
    subst (λ (n : ℕ). n ≤ length rest) (sym same) (subst (λ (n : ℕ). inputs ≤ n) (sym cut) room)

pub made_with : (net : RawNet) (task : Assertion) (driver : HasOneDriver net) (bits firsts starts rest : List Bool) (inputs : List (List Bool)) (told : Run) (times each count : ℕ) → times ≡ depth task → each ≡ open_count net → count ≡ first_count net task.reset → rest ≡ drop count bits → 0 < depth task → length (choices net task) ≤ length bits → AreNetChoices net task.reset bits firsts → AreInputRows rest each times inputs → starts ≡ map (λ (latch : Latch). start_bit task.reset latch.init (get_or firsts latch.output.0 false)) net.latches → IsRunOn net times inputs starts told → IsRunWith net task bits told
made_with net task driver bits firsts starts rest inputs told times each count t e f is inside long chosen rows begins run =
    let a : AreInputRows rest each (depth task) inputs = subst (λ (n : ℕ). AreInputRows rest each n inputs) t rows in
    let b : AreInputRows rest (open_count net) (depth task) inputs = subst (λ (n : ℕ). AreInputRows rest n (depth task) inputs) e a in
    let d : AreInputRows (drop (first_count net task.reset) bits) (open_count net) (depth task) inputs = subst (λ (xs : List Bool). AreInputRows xs (open_count net) (depth task) inputs) (is ∙ ap (λ (n : ℕ). drop n bits) f) b in
    let x : IsRunOn net (depth task) inputs starts told = subst (λ (n : ℕ). IsRunOn net n inputs starts told) t run in
    let y = subst (λ (xs : List Bool). IsRunOn net (depth task) inputs xs told) begins x in
    with_choices net task driver bits firsts inputs told inside long chosen d y
