-- The bits of the runs with all choices are those of each time, with the choices as variables.
use Rattle.std.proofs.Common.{◌≡◌, ℕ, zero, suc, ◌+◌, ◌*◌, ◌<◌, ◌≤◌, Bool, true, false, List, [], ◌∷◌, ◌++◌, take, length, get_or, refl, sym, ◌∙◌, ap, subst, arith, inl, inr}
use Rattle.std.specs.Prelude.{IsTrue, if◌then◌else◌}
use Rattle.std.proofs.Math.Nat.{mul-le-mul_right, suc-mul, zero-mul}
use Rattle.std.proofs.lemmas.Bool.{cases_lt}
use Rattle.std.proofs.lemmas.List.{get_or-append-add, get_or_append_left, get_or-drop, get_or-map, get_or-take, length-take}
use Rattle.net_core.specs.declared.raw.RawNet.{RawNet}
use Rattle.ste_base.specs.Functions.{Function}
use Rattle.ste_model.specs.declared.task.Assertion.{Assertion}
use Rattle.ste_model.specs.Asked.{depth}
use Rattle.exact_model.specs.Choices.{Cell, cells_at, choices, input_cells}
use Rattle.exact_model.specs.ExactWork.{AreExactBits}
use Rattle.exact_model.specs.Wider.{bits_over_more}
use Rattle.exact_engine.specs.private.Counts.{first_count, first_test, open_count, open_test}
use Rattle.exact_engine.specs.private.Sources.{AreChoices, IsVariable}
use Rattle.exact_engine.specs.private.Times.{AreTimes, choice_at}
use Rattle.exact_engine.proofs.Counted.{cells_long, choices_long, inputs_long}
use Rattle.exact_engine.proofs.Starts.{cells_below}

abbrev cell : ℕ → ℕ → Cell
cell t id = record { time = t; net = id }

at_seam : (xs : List Cell) (x d : Cell) → get_or (xs ++ x ∷ []) (length xs) d ≡ x
at_seam [] x d = refl
at_seam (y ∷ xs) x d = at_seam xs x d

-- ---- the place of a choice

-- among those of one time it is the number of those before it
cells_spot : (passes : ℕ → Bool) (t n id : ℕ) (d : Cell) → id < n → IsTrue (passes id) → get_or (cells_at passes t n) (length (cells_at passes t id)) d ≡ cell t id
cells_spot passes t zero id d l h = absurd (omega arith)
cells_spot passes t (suc n) id d l h = elim (cases_lt id n) [
  | inl early ↦ earlier (passes n) (cells_spot passes t n id d early h) (cells_below passes t id n early h)
  | inr late ↦
      let same : id ≡ n = omega (arith, late, l) in
      let here : passes n ≡ true = subst (λ (k : ℕ). passes k ≡ true) same h in
      ap (λ (k : ℕ). get_or (cells_at passes t (suc n)) (length (cells_at passes t k)) d) same
      ∙ ap (λ (b : Bool). get_or (if b then cells_at passes t n ++ cell t n ∷ [] else cells_at passes t n) (length (cells_at passes t n)) d) here
      ∙ at_seam (cells_at passes t n) (cell t n) d ∙ ap (cell t) (sym same)
]
  where
    earlier : (b : Bool) → get_or (cells_at passes t n) (length (cells_at passes t id)) d ≡ cell t id → length (cells_at passes t id) < length (cells_at passes t n) → get_or (if b then cells_at passes t n ++ cell t n ∷ [] else cells_at passes t n) (length (cells_at passes t id)) d ≡ cell t id
    earlier true e inside = get_or_append_left (cells_at passes t n) (cell t n ∷ []) d (length (cells_at passes t id)) inside ∙ e
    earlier false e inside = e

-- among the inputs of all times there are those of the times before it too
inputs_spot : (net : RawNet) (n t id : ℕ) (d : Cell) → t < n → id < net.nets → IsTrue (open_test net id) → get_or (input_cells net n) (t * open_count net + length (cells_at (open_test net) 0 id)) d ≡ cell t id
inputs_spot net zero t id d l m h = absurd (omega arith)
inputs_spot net (suc n) t id d l m h =
    let passes : ℕ → Bool = open_test net in
    let q : ℕ = length (cells_at passes 0 id) in
    let before : List Cell = input_cells net n in
    let long : length before ≡ n * open_count net = inputs_long net n in
    elim (cases_lt t n) [
      | inl early ↦
          let most : suc t * open_count net ≤ n * open_count net = times_le (suc t) n (open_count net) (omega arith) in
          let next : suc t * open_count net ≡ t * open_count net + open_count net = suc-mul t (open_count net) in
          let below = cells_below passes 0 id net.nets m h in
          get_or_append_left before (cells_at passes n net.nets) d (t * open_count net + q) (omega (arith, long, most, next, below)) ∙ inputs_spot net n t id d early m h
      | inr late ↦
          let same : t ≡ n = omega (arith, late, l) in
          let place : t * open_count net + q ≡ length before + q = ap (λ (k : ℕ). k * open_count net + q) same ∙ ap (λ (k : ℕ). k + q) (sym long) in
          ap (λ (k : ℕ). get_or (before ++ cells_at passes n net.nets) k d) place
          ∙ get_or-append-add before (cells_at passes n net.nets) q d
          ∙ ap (λ (k : ℕ). get_or (cells_at passes n net.nets) k d) (cells_long passes 0 n id)
          ∙ cells_spot passes n net.nets id d m h ∙ ap (λ (k : ℕ). cell k id) (sym same)
    ]
  where
    times_le : (a b k : ℕ) → a ≤ b → a * k ≤ b * k
    times_le a b k le = mul-le-mul_right k le

module _ (net : RawNet) (task : Assertion) where
  first_spot : (id : ℕ) (d : Cell) → id < net.nets → IsTrue (first_test net task.reset id) → get_or (choices net task) (length (cells_at (first_test net task.reset) 0 id)) d ≡ cell 0 id
  first_spot id d l h =
      let passes : ℕ → Bool = first_test net task.reset in
      get_or_append_left (cells_at passes 0 net.nets) (input_cells net (depth task)) d (length (cells_at passes 0 id)) (cells_below passes 0 id net.nets l h) ∙ cells_spot passes 0 net.nets id d l h

  input_spot : (t id : ℕ) (d : Cell) → t < depth task → id < net.nets → IsTrue (open_test net id) → get_or (choices net task) (first_count net task.reset + (t * open_count net + length (cells_at (open_test net) 0 id))) d ≡ cell t id
  input_spot t id d l m h =
      get_or-append-add (cells_at (first_test net task.reset) 0 net.nets) (input_cells net (depth task)) (t * open_count net + length (cells_at (open_test net) 0 id)) d
      ∙ inputs_spot net (depth task) t id d l m h

-- ---- the variables

module _ (net : RawNet) (vars : ℕ) (task : Assertion) (bit : ℕ → ℕ → Function) (exact : AreExactBits net vars task bit) (total : ℕ) (room : vars + length (choices net task) ≤ total) where
  abbrev width : ℕ
  width = vars + length (choices net task)

  front_long : (bits : List Bool) → length bits ≡ total → length (take width bits) ≡ width
  front_long bits l = simp (length-take) (omega (arith, l, room))

  -- the bit at the choice of some place is the variable behind the first ones by this place
  at_place : (p t id : ℕ) → p < length (choices net task) → ((d : Cell) → get_or (choices net task) p d ≡ cell t id) → IsVariable total (vars + p) (bits_over_more width bit t id)
  at_place p t id l is bits long =
      let all : List Bool = take width bits in
      let some : Cell = cell 0 0 in
      let run : Cell → Bool = λ (c : Cell). bit c.time c.net all in
      ap run (sym (is some)) ∙ sym (get_or-map run (choices net task) p some false l)
      ∙ ap (λ (xs : List Bool). get_or xs p false) (exact.chosen all (front_long bits long))
      ∙ get_or-drop vars all p false ∙ get_or-take width bits (vars + p) false (omega (arith, l))

  moved : (a b t id : ℕ) → a ≡ b → IsVariable total a (bits_over_more width bit t id) → IsVariable total b (bits_over_more width bit t id)
  moved a b t id e h = subst (λ (k : ℕ). IsVariable total k (bits_over_more width bit t id)) e h

  firsts_are : AreChoices total (first_test net task.reset) net.nets vars (bits_over_more width bit 0)
  firsts_are id l h =
      let long = choices_long net task in
      let below = cells_below (first_test net task.reset) 0 id net.nets l h in
      at_place (length (cells_at (first_test net task.reset) 0 id)) 0 id (omega (arith, long, below)) (λ d. first_spot net task id d l h)

  inputs_are : (t : ℕ) → t < depth task → AreChoices total (open_test net) net.nets (choice_at net vars task t) (bits_over_more width bit t)
  inputs_are t lt id l h =
      let long = choices_long net task in
      let q : ℕ = length (cells_at (open_test net) 0 id) in
      let below = cells_below (open_test net) 0 id net.nets l h in
      let next : suc t * open_count net ≡ t * open_count net + open_count net = suc-mul t (open_count net) in
      let most : suc t * open_count net ≤ depth task * open_count net = mul-le-mul_right (open_count net) (omega arith) in
      let place : ℕ = first_count net task.reset + (t * open_count net + q) in
      moved (vars + place) (choice_at net vars task t + q) t id (omega arith)
      (at_place place t id (omega (arith, long, below, next, most)) (λ d. input_spot net task t id d lt l h))

  pub are_times : AreTimes total net vars task (bits_over_more width bit)
  are_times = record {
    gates = λ t l bits long. (exact.is_run (take width bits) (front_long bits long)).is_run.gates t l;
    first = λ l. record {
      firsts = firsts_are;
      inputs = λ id m h. moved (choice_at net vars task 0 + length (cells_at (open_test net) 0 id)) (vars + first_count net task.reset + length (cells_at (open_test net) 0 id)) 0 id
          (let none : 0 * open_count net ≡ 0 = zero-mul (open_count net) in omega (arith, none)) (inputs_are 0 l id m h);
      starts = λ k d m bits long. (exact.is_run (take width bits) (front_long bits long)).starts l k d m;
    };
    next = λ t l. record {
      inputs = inputs_are (suc t) l;
      latches = λ k d m bits long. (exact.is_run (take width bits) (front_long bits long)).is_run.latches t l k d m;
    };
  }
