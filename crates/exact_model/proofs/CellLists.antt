-- Lists of cells: what holds of each cell, and runs with given bits at them.
use Rattle.std.proofs.Common.{◌≡◌, ℕ, zero, suc, ◌<◌, Bool, true, false, List, [], ◌∷◌, ◌++◌, take, drop, length, arith, refl, sym, ◌∙◌, ap, inl, inr}
use Rattle.std.specs.Prelude.{All, Contains, IsTrue, if◌then◌else◌, nat_lt}
use Rattle.std.proofs.lemmas.Bool.{cases_lt}
use Rattle.std.proofs.lemmas.List.{length-append, length-take, length-drop, map-append, take-append-drop}
use Rattle.std.proofs.lemmas.List.Elements.{All-append, All-cons, All-head, All-nil, All-tail, All-weaker, Contains-append_left, Contains-append_right}
use Rattle.net_core.specs.declared.raw.RawNet.{RawNet}
use Rattle.net_core.specs.declared.source.Source.{Source}
use Rattle.net_core.specs.declared.source.Source.TheVariants as source
use Rattle.net_core.specs.Source.{source_of}
use Rattle.ste_model.specs.declared.task.Assertion.{Assertion}
use Rattle.ste_model.specs.Asked.{depth}
use Rattle.exact_model.specs.Choices.{Cell, bits_at, cells_at, choices, input_cells, is_first_choice, is_open}

abbrev pub cell : ℕ → ℕ → Cell
cell t id = record { time = t; net = id }

-- two runs have the same bit at a cell
abbrev pub Agree : (ℕ → ℕ → Bool) → (ℕ → ℕ → Bool) → Cell → Type 0
Agree one other c = one c.time c.net ≡ other c.time c.net

pub agree_at : (cells : List Cell) (one other : ℕ → ℕ → Bool) → bits_at cells one ≡ bits_at cells other → All (Agree one other) cells
agree_at [] one other e = All-nil (Agree one other)
agree_at (c ∷ cells) one other e =
    let here : one c.time c.net ≡ other c.time c.net = cc e in
    let rest : bits_at cells one ≡ bits_at cells other = cc e in
    All-cons (Agree one other) c cells here (agree_at cells one other rest)

pub bits_agree : (cells : List Cell) (one other : ℕ → ℕ → Bool) → All (Agree one other) cells → bits_at cells one ≡ bits_at cells other
bits_agree [] one other all = refl
bits_agree (c ∷ cells) one other all =
    let here : one c.time c.net ≡ other c.time c.net = All-head (Agree one other) c cells all in
    let rest = bits_agree cells one other (All-tail (Agree one other) c cells all) in
    cc

-- ---- the cells of one time

module _ (passes : ℕ → Bool) (t : ℕ) where
  pub all_at : (P : Cell → Type 0) (n : ℕ) → ((id : ℕ) → id < n → IsTrue (passes id) → P (cell t id)) → All P (cells_at passes t n)
  all_at P zero each = All-nil P
  all_at P (suc n) each = by (passes n) refl (all_at P n (λ id l. each id (omega arith)))
    where
      by : (b : Bool) → passes n ≡ b → All P (cells_at passes t n) → All P (if b then cells_at passes t n ++ cell t n ∷ [] else cells_at passes t n)
      by true e before = All-append P (cells_at passes t n) (cell t n ∷ []) before (All-cons P (cell t n) [] (each n (omega arith) e) (All-nil P))
      by false e before = before

  pub in_at : (n id : ℕ) → id < n → IsTrue (passes id) → Contains (cells_at passes t n) (cell t id)
  in_at zero id l h = absurd (omega arith)
  in_at (suc n) id l h = by (passes n) refl (in_at n id)
    where
      by : (b : Bool) → passes n ≡ b → (id < n → IsTrue (passes id) → Contains (cells_at passes t n) (cell t id)) → Contains (if b then cells_at passes t n ++ cell t n ∷ [] else cells_at passes t n) (cell t id)
      by true e before = elim (cases_lt id n) [
        | inl early ↦ Contains-append_left (cells_at passes t n) (cell t n ∷ []) (cell t id) (before early h)
        | inr late ↦
            let same : id ≡ n = omega arith in
            Contains-append_right (cells_at passes t n) (cell t n ∷ []) (cell t id) (0, omega arith, ap (cell t) (sym same))
      ]
      by false e before = elim (cases_lt id n) [
        | inl early ↦ before early h
        | inr late ↦ let same : id ≡ n = omega arith in absurd (cc (ap passes same, h, e))
      ]

-- ---- the inputs and free nets

pub all_inputs : (P : Cell → Type 0) (net : RawNet) (n : ℕ) → ((t id : ℕ) → t < n → id < net.nets → IsTrue (is_open (source_of net id)) → P (cell t id)) → All P (input_cells net n)
all_inputs P net zero each = All-nil P
all_inputs P net (suc n) each =
    All-append P (input_cells net n) (cells_at (λ id. is_open (source_of net id)) n net.nets) (all_inputs P net n (λ t id l. each t id (omega arith)))
    (all_at (λ id. is_open (source_of net id)) n P net.nets (λ id l. each n id (omega arith) l))

pub in_inputs : (net : RawNet) (n t id : ℕ) → t < n → id < net.nets → IsTrue (is_open (source_of net id)) → Contains (input_cells net n) (cell t id)
in_inputs net zero t id l m h = absurd (omega arith)
in_inputs net (suc n) t id l m h = elim (cases_lt t n) [
  | inl early ↦ Contains-append_left (input_cells net n) (cells_at (λ k. is_open (source_of net k)) n net.nets) (cell t id) (in_inputs net n t id early m h)
  | inr late ↦
      let same : t ≡ n = omega arith in
      Contains-append_right (input_cells net n) (cells_at (λ k. is_open (source_of net k)) n net.nets) (cell t id)
      (rw same (in_at (λ k. is_open (source_of net k)) n net.nets id m h))
]

-- ---- choices

pub all_choices : (P : Cell → Type 0) (net : RawNet) (task : Assertion) → ((id : ℕ) → id < net.nets → IsTrue (is_first_choice net task.reset (source_of net id)) → P (cell 0 id)) → ((t id : ℕ) → t < depth task → id < net.nets → IsTrue (is_open (source_of net id)) → P (cell t id)) → All P (choices net task)
all_choices P net task firsts inputs =
    All-append P (cells_at (λ id. is_first_choice net task.reset (source_of net id)) 0 net.nets) (input_cells net (depth task))
    (all_at (λ id. is_first_choice net task.reset (source_of net id)) 0 P net.nets firsts) (all_inputs P net (depth task) inputs)

pub first_in : (net : RawNet) (task : Assertion) (id : ℕ) → id < net.nets → IsTrue (is_first_choice net task.reset (source_of net id)) → Contains (choices net task) (cell 0 id)
first_in net task id l h =
    Contains-append_left (cells_at (λ k. is_first_choice net task.reset (source_of net k)) 0 net.nets) (input_cells net (depth task)) (cell 0 id)
    (in_at (λ k. is_first_choice net task.reset (source_of net k)) 0 net.nets id l h)

pub input_in : (net : RawNet) (task : Assertion) (t id : ℕ) → t < depth task → id < net.nets → IsTrue (is_open (source_of net id)) → Contains (choices net task) (cell t id)
input_in net task t id l m h =
    Contains-append_right (cells_at (λ k. is_first_choice net task.reset (source_of net k)) 0 net.nets) (input_cells net (depth task)) (cell t id)
    (in_inputs net (depth task) t id l m h)

-- ---- bits for each cell

-- whatever bits the cells are to have, some bits of all times and nets have them there
abbrev pub Fills : List Cell → Type 0
Fills cells = (bits : List Bool) → length bits ≡ length cells → (f : ℕ → ℕ → Bool) × (bits_at cells f ≡ bits)

-- two lists that a test distinguishes
join : (p : ℕ → ℕ → Bool) (xs ys : List Cell) → All (λ c. p c.time c.net ≡ true) xs → All (λ c. p c.time c.net ≡ false) ys → Fills xs → Fills ys → Fills (xs ++ ys)
join p xs ys on off fill_xs fill_ys bits long =
    let total = length-append xs ys in
    let front = fill_xs (take (length xs) bits) (simp length-take (omega (arith, long, total))) in
    let back = fill_ys (drop (length xs) bits) (simp length-drop (omega (arith, long, total))) in
    let f : ℕ → ℕ → Bool = λ t id. if p t id then front.0 t id else back.0 t id in
    let same_front = bits_agree xs f front.0 (All-weaker (λ c. p c.time c.net ≡ true) (Agree f front.0) (λ c e. ap (λ b. if b then front.0 c.time c.net else back.0 c.time c.net) e) xs on) in
    let same_back = bits_agree ys f back.0 (All-weaker (λ c. p c.time c.net ≡ false) (Agree f back.0) (λ c e. ap (λ b. if b then front.0 c.time c.net else back.0 c.time c.net) e) ys off) in
    (f, put f (take (length xs) bits) (drop (length xs) bits) (same_front ∙ front.1) (same_back ∙ back.1) ∙ take-append-drop (length xs) bits)
  where
    put : (g : ℕ → ℕ → Bool) (one two : List Bool) → bits_at xs g ≡ one → bits_at ys g ≡ two → bits_at (xs ++ ys) g ≡ one ++ two
    put g one two e f = map-append (λ (c : Cell). g c.time c.net) xs ys ∙ ap (λ cs. cs ++ bits_at ys g) e ∙ ap (λ cs. one ++ cs) f

fill_none : Fills []
fill_none [] long = ((λ t id. false), refl)
fill_none (b ∷ bits) long = absurd (omega arith)

fill_one : (c : Cell) → Fills (c ∷ [])
fill_one c [] long = absurd (omega arith)
fill_one c (b ∷ []) long = ((λ t id. b), refl)
fill_one c (b ∷ d ∷ bits) long = absurd (omega arith)

fill_at : (passes : ℕ → Bool) (t n : ℕ) → Fills (cells_at passes t n)
fill_at passes t zero = fill_none
fill_at passes t (suc n) = by (passes n) (fill_at passes t n)
  where
    by : (b : Bool) → Fills (cells_at passes t n) → Fills (if b then cells_at passes t n ++ cell t n ∷ [] else cells_at passes t n)
    by true before =
        join (λ u id. nat_lt id n) (cells_at passes t n) (cell t n ∷ [])
        (all_at passes t (λ c. nat_lt c.net n ≡ true) n (λ id l h. grind (arith, l)))
        (All-cons (λ (c : Cell). nat_lt c.net n ≡ false) (cell t n) [] (grind arith) (All-nil (λ (c : Cell). nat_lt c.net n ≡ false)))
        before (fill_one (cell t n))
    by false before = before

fill_inputs : (net : RawNet) (n : ℕ) → Fills (input_cells net n)
fill_inputs net zero = fill_none
fill_inputs net (suc n) =
    join (λ t id. nat_lt t n) (input_cells net n) (cells_at (λ id. is_open (source_of net id)) n net.nets)
    (all_inputs (λ c. nat_lt c.time n ≡ true) net n (λ t id l m h. grind (arith, l)))
    (all_at (λ id. is_open (source_of net id)) n (λ c. nat_lt c.time n ≡ false) net.nets (λ id l h. grind arith))
    (fill_inputs net n) (fill_at (λ id. is_open (source_of net id)) n net.nets)

open_no_first : (net : RawNet) (reset : Bool) (s : Source) → IsTrue (is_open s) → is_first_choice net reset s ≡ false
open_no_first net reset source.Input h = refl
open_no_first net reset source.Free h = refl
open_no_first net reset (source.Gate g) h = absurd (cc h)
open_no_first net reset (source.Latch l) h = absurd (cc h)

pub fill_choices : (net : RawNet) (task : Assertion) → Fills (choices net task)
fill_choices net task =
    join (λ t id. is_first_choice net task.reset (source_of net id)) (cells_at (λ id. is_first_choice net task.reset (source_of net id)) 0 net.nets) (input_cells net (depth task))
    (all_at (λ id. is_first_choice net task.reset (source_of net id)) 0 (λ c. is_first_choice net task.reset (source_of net c.net) ≡ true) net.nets (λ id l h. h))
    (all_inputs (λ c. is_first_choice net task.reset (source_of net c.net) ≡ false) net (depth task) (λ t id l m h. open_no_first net task.reset (source_of net id) h))
    (fill_at (λ id. is_first_choice net task.reset (source_of net id)) 0 net.nets) (fill_inputs net (depth task))
