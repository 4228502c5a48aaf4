-- Sets that have exactly one bit: where all inputs of a gate have, the sums of both lists of its rows are opposites.
use Rattle.std.proofs.Common.{All, ◌≡◌, ◌≢◌, ◌≤◌, Bool, true, false, not, List, [], ◌∷◌, ℕ, zero, suc, length, map, replicate, refl, sym, ◌∙◌, ap, subst, arith, Contains, Result, Ok}
use Rattle.std.specs.Prelude.{◌&&◌, ◌||◌, if◌then◌else◌}
use Rattle.std.proofs.lemmas.Bool.{false≢true}
use Rattle.std.proofs.Math.Bool.{not-not}
use Rattle.std.proofs.lemmas.List.{length-map, length-replicate}
use Rattle.std.proofs.lemmas.List.Elements.{All-nil, All-cons, All-head, All-tail, Contains-append_left, Contains-append_right}
use Rattle.ste_base.specs.Functions.{Function}
use Rattle.dd_nodes.specs.declared.node.Ref.{Ref}
use Rattle.dd_nodes.specs.Stores.{Store, Means, function}
use Rattle.dd_ops.specs.Answer.{Answer, xor_bit}
use Rattle.dd_nodes.specs.Spending.{Has}
use Rattle.dd_nodes.proofs.Stores.{IsGood}
use Rattle.dd_ops.proofs.Terminal.{one_bit, zero_bit}
use Rattle.dd_nodes.proofs.Spending.{Covers, Means-same}
use Rattle.dd_ops.specs.declared.fault.OpFault.{OpFault}
use Rattle.net_core.specs.declared.cover.Lit.{Lit}
use Rattle.net_core.specs.declared.cover.Lit.TheVariants.{Zero, One, Any}
use Rattle.net_core.specs.Cover.{some_matches}
use Rattle.net_core.specs.Sets.{IsIn}
use Rattle.net_core.specs.Work.{AreWide, SymbolicSet, factor, negation, some_bit, sum, row_products, rows_work, gate_set, gate_work}
use Rattle.net_core.proofs.GateSets.{Choice, rows_choice, choice_rows}
use Rattle.dual_rail.specs.declared.rails.Rails.{Rails}
use Rattle.dual_rail.specs.Rail.{AreRails, Built, HasFunction, HasSet}
use Rattle.dual_rail.proofs.Works.{Built-answer, Built-covers, Built-good, Built-made, So-start}
use Rattle.gate_sets.specs.declared.net_rails.NetRails.{NetRails}
use Rattle.gate_sets.specs.NetSets.{AreNetRails}
use Rattle.gate_sets.specs.private.Refused.{agree, choice, differ, exclusive_rows, flipped, list_set, list_work, other_factor}
use Rattle.gate_sets.proofs.OtherRail.{same_bits}
use Rattle.gate_sets.proofs.Pairs.{sum_in}

full_bit : (z o : Bool) → z ≡ not o → (z || o) ≡ true
full_bit true o e = refl
full_bit false true e = refl
full_bit false false e = e

-- one bit is some bit
pub known_full : (w : SymbolicSet) (bits : List Bool) → w.zero bits ≡ not (w.one bits) → some_bit w bits ≡ true
known_full w bits e = full_bit (w.zero bits) (w.one bits) e

-- each of the sets has one bit
abbrev pub HaveOne : List Bool → List SymbolicSet → Type 0
HaveOne bits ws = All (λ w. w.zero bits ≡ not (w.one bits)) ws

-- these bits
abbrev pub their_bits : List Bool → List SymbolicSet → List Bool
their_bits bits ws = map (λ w. w.one bits) ws

bit_is : (b z o : Bool) → z ≡ not o → IsIn b (record { zero = z; one = o }) → b ≡ o
bit_is true z o e h = sym h
bit_is false z true e h = sym e ∙ h
bit_is false z false e h = refl

own_bit : (z o : Bool) → z ≡ not o → IsIn o (record { zero = z; one = o })
own_bit z true e = refl
own_bit z false e = e

only_choice : (ws : List SymbolicSet) (bits bs : List Bool) → HaveOne bits ws → Choice ws bits bs → bs ≡ their_bits bits ws
only_choice [] bits [] h c = refl
only_choice [] bits (b ∷ bs) h c = absurd c
only_choice (w ∷ ws) bits [] h c = absurd c
only_choice (w ∷ ws) bits (b ∷ bs) h c =
    ap (λ x. x ∷ bs) (bit_is b (w.zero bits) (w.one bits) (All-head (λ (v : SymbolicSet). v.zero bits ≡ not (v.one bits)) w ws h) c.0)
    ∙ ap (λ xs. w.one bits ∷ xs) (only_choice ws bits bs (All-tail (λ (v : SymbolicSet). v.zero bits ≡ not (v.one bits)) w ws h) c.1)

a_choice : (ws : List SymbolicSet) (bits : List Bool) → HaveOne bits ws → Choice ws bits (their_bits bits ws)
a_choice [] bits h = tt
a_choice (w ∷ ws) bits h = (
  own_bit (w.zero bits) (w.one bits) (All-head (λ (v : SymbolicSet). v.zero bits ≡ not (v.one bits)) w ws h),
  a_choice ws bits (All-tail (λ (v : SymbolicSet). v.zero bits ≡ not (v.one bits)) w ws h),
)

-- a sum is whether some row matches the bits
pub known_sum : (rows : List (List Lit)) (ws : List SymbolicSet) (bits : List Bool) → AreWide rows (length ws) → HaveOne bits ws → sum (row_products rows ws) bits ≡ some_matches rows (their_bits bits ws)
known_sum rows ws bits wide h = same_bits (sum (row_products rows ws) bits) (some_matches rows (their_bits bits ws))
    (λ e. let r = rows_choice rows ws bits wide e in ap (some_matches rows) (sym (only_choice ws bits r.0 h r.1)) ∙ r.2)
    (λ e. choice_rows rows ws bits (their_bits bits ws) wide (a_choice ws bits h) e)

-- so the sums of rows that stand against each other are opposites
pub opposite_sums : (rows others : List (List Lit)) (ws : List SymbolicSet) (bits : List Bool) → AreWide rows (length ws) → AreWide others (length ws)
    → ((bs : List Bool) → length bs ≡ length ws → some_matches others bs ≡ not (some_matches rows bs)) → HaveOne bits ws
    → sum (row_products others ws) bits ≡ not (sum (row_products rows ws) bits)
opposite_sums rows others ws bits wide wide_others apart h =
    known_sum others ws bits wide_others h
    ∙ apart (their_bits bits ws) (length-map ws (λ (w : SymbolicSet). w.one bits))
    ∙ ap not (sym (known_sum rows ws bits wide h))

-- ---- literals

other_is : (lit : Lit) (w : SymbolicSet) (bits : List Bool) → w.zero bits ≡ not (w.one bits) → other_factor lit w bits ≡ not (factor lit w bits)
other_is Zero w bits e = sym (ap not e ∙ not-not (w.one bits))
other_is One w bits e = e
other_is Any w bits e = sym (ap not (known_full w bits e))

not_both : (a b : Bool) → not (a && b) ≡ (not a || not b)
not_both true b = refl
not_both false b = refl

-- where two sets have one bit each, a bit that is not admitted is refused
pub refused_is : (x y : Lit) (v w : SymbolicSet) (bits : List Bool) → v.zero bits ≡ not (v.one bits) → w.zero bits ≡ not (w.one bits)
    → not (factor x v bits && factor y w bits) ≡ (other_factor x v bits || other_factor y w bits)
refused_is x y v w bits e f =
    not_both (factor x v bits) (factor y w bits)
    ∙ ap (λ b. b || not (factor y w bits)) (sym (other_is x v bits e))
    ∙ ap (λ b. other_factor x v bits || b) (sym (other_is y w bits f))

-- a literal that decides alone
pub first_decides : (x y : Lit) (v w : SymbolicSet) (bits : List Bool) → v.zero bits ≡ not (v.one bits) → w.zero bits ≡ not (w.one bits)
    → (factor x v bits && factor y w bits) ≡ factor x v bits → other_factor x v bits ≡ (other_factor x v bits || other_factor y w bits)
first_decides x y v w bits e f same = other_is x v bits e ∙ ap not (sym same) ∙ refused_is x y v w bits e f

pub second_decides : (x y : Lit) (v w : SymbolicSet) (bits : List Bool) → v.zero bits ≡ not (v.one bits) → w.zero bits ≡ not (w.one bits)
    → (factor x v bits && factor y w bits) ≡ factor y w bits → other_factor y w bits ≡ (other_factor x v bits || other_factor y w bits)
second_decides x y v w bits e f same = other_is y w bits f ∙ ap not (sym same) ∙ refused_is x y v w bits e f

-- ---- exclusive OR

flipped_is : (lit : Lit) (w : SymbolicSet) (bits : List Bool) → lit ≢ Any → factor (flipped lit) w bits ≡ other_factor lit w bits
flipped_is Zero w bits some = refl
flipped_is One w bits some = refl
flipped_is Any w bits some = absurd (some refl)

by_test : (p q p' q' : Bool) → p' ≡ not p → ((p && q) || (p' && q')) ≡ (if p then q else q')
by_test true true p' q' e = refl
by_test true false p' q' e = ap (λ b. b && q') e
by_test false q p' q' e = ap (λ b. b && q') e

opposite_test : (p q q' : Bool) → q' ≡ not q → not (if p then q else q') ≡ (if p then q' else q)
opposite_test true q q' e = sym e
opposite_test false q q' e = ap not e ∙ not-not q

module _ (x y : Lit) (v w : SymbolicSet) (bits : List Bool) (one_v : v.zero bits ≡ not (v.one bits)) (one_w : w.zero bits ≡ not (w.one bits)) where
  pub differ_is : x ≢ Any → y ≢ Any → sum (row_products (exclusive_rows x y) (v ∷ w ∷ [])) bits ≡ differ x y v w bits
  differ_is asks_x asks_y =
      ap (λ b. (factor x v bits && factor y w bits) || (b && factor (flipped y) w bits)) (flipped_is x v bits asks_x)
      ∙ ap (λ b. (factor x v bits && factor y w bits) || (other_factor x v bits && b)) (flipped_is y w bits asks_y)
      ∙ by_test (factor x v bits) (factor y w bits) (other_factor x v bits) (other_factor y w bits) (other_is x v bits one_v)

  pub agree_is : not (differ x y v w bits) ≡ agree x y v w bits
  agree_is = opposite_test (factor x v bits) (factor y w bits) (other_factor y w bits) (other_is y w bits one_w)

by_difference : (t h k : Bool) → k ≡ not h → xor_bit t k ≡ (if t then h else k)
by_difference true true k e = ap not e
by_difference true false k e = ap not e
by_difference false h k e = refl

opposite_back : (h k : Bool) → k ≡ not h → h ≡ not k
opposite_back true k e = sym (ap not e)
opposite_back false k e = sym (ap not e)

-- what is 1 where the test is 1, and the opposite of it where the test is 0, is where the test and the opposite differ
pub difference_built : (work : List Function) (test f h : Function) (s t : Store) (c b : Ref) (result : Result Ref OpFault) → Contains work (choice test f h) → ((bits : List Bool) → length bits ≡ s.vars → h bits ≡ not (f bits)) → Means s test c → Means s h b
    → Answer (λ bits. xor_bit (function s c bits) (function s b bits)) s t result → Built work (HasFunction (choice test f h)) s t result
difference_built work test f h s t c b result has opposed mc mb x =
    Built-answer work (λ bits. xor_bit (function s c bits) (function s b bits)) (choice test f h) s t result has
    (λ bits l. ap (λ x. xor_bit x (function s b bits)) (mc.value bits l) ∙ (ap (xor_bit (test bits)) (mb.value bits l) ∙ by_difference (test bits) (f bits) (h bits) (opposed bits l))) x

-- what a literal asks of a set with exactly one bit, and what it refuses, are opposites
pub opposed : (s : Store) (y : Lit) (w : SymbolicSet) (b : NetRails) → AreNetRails s w b → b.known ≡ true → (bits : List Bool) → length bits ≡ s.vars → other_factor y w bits ≡ not (factor y w bits)
opposed s y w b mw known bits l = other_is y w bits (mw.known known bits l)

pub opposed_back : (s : Store) (y : Lit) (w : SymbolicSet) (b : NetRails) → AreNetRails s w b → b.known ≡ true → (bits : List Bool) → length bits ≡ s.vars → factor y w bits ≡ not (other_factor y w bits)
opposed_back s y w b mw known bits l = opposite_back (factor y w bits) (other_factor y w bits) (opposed s y w b mw known bits l)

-- where the test is a constant, the choice has a reference already
pub chosen : (s : Store) (x y : Lit) (v w : SymbolicSet) (test refused admitted : Ref) → IsGood s → test.0 ≡ 1 → Means s (factor x v) test → Means s (factor y w) admitted → Means s (other_factor y w) refused
    → Built (differ x y v w ∷ agree x y v w ∷ []) (HasSet (record { zero = agree x y v w; one = differ x y v w })) s s (Ok (record { can0 = refused; can1 = admitted }))
chosen s x y v w test refused admitted d e mt ma mr =
    let work : List Function = differ x y v w ∷ agree x y v w ∷ [] in
    let asked : (bits : List Bool) → length bits ≡ s.vars → factor x v bits ≡ true = λ bits l. sym (mt.value bits l) ∙ one_bit s test bits d e in
    Built-made work (HasSet (record { zero = agree x y v w; one = differ x y v w })) s s (record { can0 = refused; can1 = admitted }) (So-start work s) (record {
      zero = Means-same s (other_factor y w) (agree x y v w) refused (λ bits l. sym (ap (λ (b : Bool). if b then other_factor y w bits else factor y w bits) (asked bits l))) mr;
      one = Means-same s (factor y w) (differ x y v w) admitted (λ bits l. sym (ap (λ (b : Bool). if b then factor y w bits else other_factor y w bits) (asked bits l))) ma;
    })

pub passed : (s : Store) (x y : Lit) (v w : SymbolicSet) (test refused admitted : Ref) → IsGood s → test.0 ≡ 0 → Means s (factor x v) test → Means s (factor y w) admitted → Means s (other_factor y w) refused
    → Built (differ x y v w ∷ agree x y v w ∷ []) (HasSet (record { zero = agree x y v w; one = differ x y v w })) s s (Ok (record { can0 = admitted; can1 = refused }))
passed s x y v w test refused admitted d e mt ma mr =
    let work : List Function = differ x y v w ∷ agree x y v w ∷ [] in
    let asked : (bits : List Bool) → length bits ≡ s.vars → factor x v bits ≡ false = λ bits l. sym (mt.value bits l) ∙ zero_bit s test bits d e in
    Built-made work (HasSet (record { zero = agree x y v w; one = differ x y v w })) s s (record { can0 = admitted; can1 = refused }) (So-start work s) (record {
      zero = Means-same s (factor y w) (agree x y v w) admitted (λ bits l. sym (ap (λ (b : Bool). if b then other_factor y w bits else factor y w bits) (asked bits l))) ma;
      one = Means-same s (other_factor y w) (differ x y v w) refused (λ bits l. sym (ap (λ (b : Bool). if b then factor y w bits else other_factor y w bits) (asked bits l))) mr;
    })

misses : (x y : Lit) → x ≢ Any → y ≢ Any → (a b : Bool) × (some_matches (exclusive_rows x y) (a ∷ b ∷ []) ≡ false)
misses Zero Zero p q = (false, true, refl)
misses Zero One p q = (false, false, refl)
misses One Zero p q = (true, true, refl)
misses One One p q = (true, false, refl)
misses Any y p q = absurd (p refl)
misses x Any p q = absurd (q refl)

module _ (x y : Lit) (off : List (List Lit)) (v w : SymbolicSet) (s t : Store) (result : Result Rails OpFault) where
  abbrev pair_sets : List SymbolicSet
  pair_sets = v ∷ w ∷ []

  abbrev pair_rows : List (List Lit)
  pair_rows = exclusive_rows x y

  abbrev exclusive_work : List Function
  exclusive_work = gate_work pair_rows off pair_sets

  abbrev one_of : Function
  one_of = differ x y v w

  abbrev zero_of : Function
  zero_of = agree x y v w

  abbrev of_on : Function
  of_on = sum (row_products pair_rows pair_sets)

  abbrev of_off : Function
  of_off = sum (row_products off pair_sets)

  -- an exclusive OR of inputs that have one bit each, by its two functions
  pub exclusive_gate : x ≢ Any → y ≢ Any → AreWide off 2 → ((bs : List Bool) → length bs ≡ 2 → some_matches off bs ≡ not (some_matches pair_rows bs))
      → ((bits : List Bool) → length bits ≡ s.vars → v.zero bits ≡ not (v.one bits)) → ((bits : List Bool) → length bits ≡ s.vars → w.zero bits ≡ not (w.one bits))
      → Built (differ x y v w ∷ agree x y v w ∷ []) (HasSet (record { zero = agree x y v w; one = differ x y v w })) s t result
      → Built (gate_work pair_rows off pair_sets) (HasSet (gate_set pair_rows off pair_sets)) s t result
  exclusive_gate asks_x asks_y wide apart one_v one_w b =
      Built-good exclusive_work (HasSet (record { zero = zero_of; one = one_of })) (HasSet (gate_set pair_rows off pair_sets)) s t result
      (λ r m. record {
        zero = Means-same t zero_of of_off r.can0 (λ bits l. sym (off_is bits (l ∙ b.spends.keeps.vars))) m.zero;
        one = Means-same t one_of of_on r.can1 (λ bits l. sym (on_is bits (l ∙ b.spends.keeps.vars))) m.one;
      })
      (Built-covers exclusive_work (one_of ∷ zero_of ∷ []) (HasSet (record { zero = zero_of; one = one_of })) s t result covers b)
    where
      on_is : (bits : List Bool) → length bits ≡ s.vars → of_on bits ≡ one_of bits
      on_is bits l = differ_is x y v w bits (one_v bits l) (one_w bits l) asks_x asks_y

      off_is : (bits : List Bool) → length bits ≡ s.vars → of_off bits ≡ zero_of bits
      off_is bits l =
          let each : HaveOne bits pair_sets = All-cons (λ (u : SymbolicSet). u.zero bits ≡ not (u.one bits)) v (w ∷ []) (one_v bits l)
          (All-cons (λ (u : SymbolicSet). u.zero bits ≡ not (u.one bits)) w [] (one_w bits l) (All-nil (λ (u : SymbolicSet). u.zero bits ≡ not (u.one bits)))) in
          let wide_on : AreWide pair_rows 2 = All-cons (λ (row : List Lit). length row ≡ 2) (x ∷ y ∷ []) ((flipped x ∷ flipped y ∷ []) ∷ []) refl
          (All-cons (λ (row : List Lit). length row ≡ 2) (flipped x ∷ flipped y ∷ []) [] refl (All-nil (λ (row : List Lit). length row ≡ 2))) in
          opposite_sums pair_rows off pair_sets bits wide_on wide apart each ∙ ap not (on_is bits l) ∙ agree_is x y v w bits (one_v bits l) (one_w bits l)

      some_off : off ≢ []
      some_off e =
          let m = misses x y asks_x asks_y in
          let bs : List Bool = m.0 ∷ m.1 ∷ [] in
          let none : some_matches off bs ≡ false = ap (λ (rs : List (List Lit)). some_matches rs bs) e in
          false≢true (sym none ∙ apart bs refl ∙ ap not m.2)

      covers : Covers s.vars (one_of ∷ zero_of ∷ []) exclusive_work
      covers f (zero, lt, e) = subst (Has s.vars exclusive_work) e (of_on, Contains-append_left (rows_work pair_rows pair_sets) (rows_work off pair_sets) of_on (sum_in pair_rows pair_sets (λ e. absurd cc)), on_is)
      covers f (suc zero, lt, e) = subst (Has s.vars exclusive_work) e (of_off, Contains-append_right (rows_work pair_rows pair_sets) (rows_work off pair_sets) of_off (sum_in off pair_sets some_off), off_is)
      covers f (suc (suc k), lt, e) = absurd (omega arith)

-- ---- one list in place of both

not_both_empty : (rows others : List (List Lit)) (n : ℕ) → ((bs : List Bool) → length bs ≡ n → some_matches others bs ≡ not (some_matches rows bs)) → rows ≡ [] → others ≡ [] → ⊥
not_both_empty rows others n apart e f =
    let bs : List Bool = replicate n false in
    let none : some_matches others bs ≡ false = ap (λ (rs : List (List Lit)). some_matches rs bs) f in
    let all : not (some_matches rows bs) ≡ true = ap (λ (rs : List (List Lit)). not (some_matches rs bs)) e in
    false≢true (sym none ∙ apart bs (length-replicate n false) ∙ all)

-- a list that is no shorter than the other has a row
pub has_row : (rows others : List (List Lit)) (n size_rows size_others : ℕ) → ((bs : List Bool) → length bs ≡ n → some_matches others bs ≡ not (some_matches rows bs))
    → (size_rows ≡ 0 → rows ≡ []) → (others ≡ [] → size_others ≡ 0) → size_rows ≤ size_others → others ≢ []
has_row rows others n a b apart is_rows is_others le e = not_both_empty rows others n apart (is_rows (let none = is_others e in omega (arith, none, le))) e

module _ (on off : List (List Lit)) (ws : List SymbolicSet) (s t : Store) (result : Result Rails OpFault) where
  abbrev sum_on : Function
  sum_on = sum (row_products on ws)

  abbrev sum_off : Function
  sum_off = sum (row_products off ws)

  pub list_on : off ≢ [] → ((bits : List Bool) → length bits ≡ s.vars → sum_off bits ≡ not (sum_on bits))
      → Built (list_work on ws) (HasSet (list_set on ws)) s t result → Built (gate_work on off ws) (HasSet (gate_set on off ws)) s t result
  list_on some opposite b =
      Built-good (gate_work on off ws) (HasSet (list_set on ws)) (HasSet (gate_set on off ws)) s t result
      (λ r m. record { zero = Means-same t (negation sum_on) sum_off r.can0 (λ bits l. sym (opposite bits (l ∙ b.spends.keeps.vars))) m.zero; one = m.one })
      (Built-covers (gate_work on off ws) (list_work on ws) (HasSet (list_set on ws)) s t result covers b)
    where
      covers : Covers s.vars (list_work on ws) (gate_work on off ws)
      covers f (zero, lt, e) = subst (Has s.vars (gate_work on off ws)) e (sum_off, Contains-append_right (rows_work on ws) (rows_work off ws) sum_off (sum_in off ws some), opposite)
      covers f (suc k, lt, e) = (f, Contains-append_left (rows_work on ws) (rows_work off ws) f (k, omega arith, e), λ bits l. refl)

  -- the rails of the off-rows, swapped
  abbrev pub OpposedSet : Store → Rails → Type 0
  OpposedSet x r = AreRails x (gate_set on off ws) (record { can0 = r.can1; can1 = r.can0 })

  pub list_off : on ≢ [] → ((bits : List Bool) → length bits ≡ s.vars → sum_off bits ≡ not (sum_on bits))
      → Built (list_work off ws) (HasSet (list_set off ws)) s t result → Built (gate_work on off ws) OpposedSet s t result
  list_off some opposite b =
      Built-good (gate_work on off ws) (HasSet (list_set off ws)) OpposedSet s t result
      (λ r m. record { zero = m.one; one = Means-same t (negation sum_off) sum_on r.can0 (λ bits l. back bits (l ∙ b.spends.keeps.vars)) m.zero })
      (Built-covers (gate_work on off ws) (list_work off ws) (HasSet (list_set off ws)) s t result covers b)
    where
      back : (bits : List Bool) → length bits ≡ s.vars → not (sum_off bits) ≡ sum_on bits
      back bits l = ap not (opposite bits l) ∙ not-not (sum_on bits)

      covers : Covers s.vars (list_work off ws) (gate_work on off ws)
      covers f (zero, lt, e) = subst (Has s.vars (gate_work on off ws)) e (sum_on, Contains-append_left (rows_work on ws) (rows_work off ws) sum_on (sum_in on ws some), λ bits l. sym (back bits l))
      covers f (suc k, lt, e) = (f, Contains-append_right (rows_work on ws) (rows_work off ws) f (k, omega arith, e), λ bits l. refl)
