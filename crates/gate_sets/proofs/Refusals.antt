-- A row of ones but for its last literal, over sets that are nowhere empty: what its literals refuse, added up one after another,
-- is what the rows that it leaves out give, sum by sum.
use Rattle.std.proofs.Common.{All, ◌≡◌, Bool, true, false, List, [], ◌∷◌, ◌++◌, ℕ, zero, suc, length, map, replicate, refl, sym, ◌∙◌, ap, subst, arith, get_or, inl, inr, Result}
use Rattle.std.specs.Prelude.{◌&&◌, ◌||◌, if◌then◌else◌}
use Rattle.std.proofs.lemmas.Bool.{false≢true}
use Rattle.std.proofs.lemmas.List.Elements.{All-nil, All-cons, All-head, All-tail, Contains-append_left, Contains-append_right, Contains-append_cases}
use Rattle.ste_base.specs.declared.id.NodeId.{NodeId}
use Rattle.dd_nodes.specs.declared.node.Ref.{Ref}
use Rattle.ste_base.specs.Functions.{Function}
use Rattle.dd_nodes.specs.Stores.{Store}
use Rattle.dd_nodes.proofs.Stores.{IsGood}
use Rattle.dd_ops.specs.declared.fault.OpFault.{OpFault}
use Rattle.dd_nodes.specs.Spending.{Has}
use Rattle.dd_nodes.proofs.Spending.{Covers, Means-same}
use Rattle.net_core.specs.declared.cover.Cover.{Cover}
use Rattle.net_core.specs.declared.cover.Lit.{Lit}
use Rattle.net_core.specs.declared.cover.Lit.TheVariants.{Zero, One, Any}
use Rattle.net_core.specs.Cases.{has_only_any, others_in, others_of, on_rows, off_rows}
use Rattle.net_core.specs.Cover.{IsCover}
use Rattle.net_core.specs.Work.{SymbolicSet, chain, whole, conjunction, disjunction, factor, factors, never, always, product, some_bit, sum, sums, row_products, rows_chains, rows_work, gate_set, gate_work}
use Rattle.dual_rail.specs.declared.rails.Rails.{Rails}
use Rattle.dual_rail.specs.Rail.{AreRails, Built, HasSet}
use Rattle.dual_rail.proofs.Works.{here, behind, within_covers, Built-covers, Built-good}
use Rattle.gate_sets.specs.declared.net_rails.NetRails.{NetRails}
use Rattle.gate_sets.specs.NetSets.{HaveInputs, net_at, sets_at}
use Rattle.gate_sets.proofs.NetRefs.{one_at}
use Rattle.gate_sets.specs.private.Refused.{is_rising, refused_sums, refused_total}

-- ---- the rows that one row leaves out

-- by its literals: those of ones in rising order, those of zeros behind them in falling order
abbrev pub row_others : List Lit → List (List Lit)
row_others [] = []
row_others (Any ∷ row) = map (λ r. Any ∷ r) (row_others row)
row_others (One ∷ row) = (Zero ∷ replicate (length row) Any) ∷ map (λ r. One ∷ r) (row_others row)
row_others (Zero ∷ row) = map (λ r. Zero ∷ r) (row_others row) ++ (One ∷ replicate (length row) Any) ∷ []

no_others : (row : List Lit) → has_only_any row ≡ true → row_others row ≡ []
no_others [] e = refl
no_others (Any ∷ row) e = ap (map (λ r. Any ∷ r)) (no_others row e)
no_others (One ∷ row) e = absurd (false≢true e)
no_others (Zero ∷ row) e = absurd (false≢true e)

nothing_left : (n : ℕ) → others_of n [] ≡ replicate n Any ∷ []
nothing_left zero = refl
nothing_left (suc n) = refl

pub others_are : (row : List Lit) → others_of (length row) (row ∷ []) ≡ row_others row
others_are [] = refl
others_are (Any ∷ row) = by (others_are row) (has_only_any row) refl
  where
    by : others_of (length row) (row ∷ []) ≡ row_others row → (b : Bool) → has_only_any row ≡ b → others_of (suc (length row)) ((Any ∷ row) ∷ []) ≡ row_others (Any ∷ row)
    by inner true e =
        ap (λ (b : Bool). if b || false then [] else map (λ (r : List Lit). Any ∷ r) (others_of (length row) (row ∷ []))) e
        ∙ sym (ap (map (λ (r : List Lit). Any ∷ r)) (no_others row e))
    by inner false e =
        ap (λ (b : Bool). if b || false then [] else map (λ (r : List Lit). Any ∷ r) (others_of (length row) (row ∷ []))) e
        ∙ ap (map (λ (r : List Lit). Any ∷ r)) inner
others_are (One ∷ row) =
    ap (λ (rows : List (List Lit)). map (λ (r : List Lit). Zero ∷ r) rows ++ map (λ (r : List Lit). One ∷ r) (others_of (length row) (row ∷ []))) (nothing_left (length row))
    ∙ ap (λ (rows : List (List Lit)). (Zero ∷ replicate (length row) Any) ∷ map (λ (r : List Lit). One ∷ r) rows) (others_are row)
others_are (Zero ∷ row) =
    ap (λ (rows : List (List Lit)). map (λ (r : List Lit). Zero ∷ r) (others_of (length row) (row ∷ [])) ++ map (λ (r : List Lit). One ∷ r) rows) (nothing_left (length row))
    ∙ ap (λ (rows : List (List Lit)). map (λ (r : List Lit). Zero ∷ r) rows ++ (One ∷ replicate (length row) Any) ∷ []) (others_are row)

-- ---- products that have begun

-- the products of rows behind one that has begun
abbrev pub begun : Function → List (List Lit) → List SymbolicSet → List Function
begun p [] ws = []
begun p (row ∷ rows) ws = whole conjunction p (factors row ws) ∷ begun p rows ws

begun_is : (rows : List (List Lit)) (ws : List SymbolicSet) → row_products rows ws ≡ begun always rows ws
begun_is [] ws = refl
begun_is (row ∷ rows) ws = ap (λ fs. product (factors row ws) ∷ fs) (begun_is rows ws)

begun_behind : (p : Function) (lit : Lit) (rows : List (List Lit)) (w : SymbolicSet) (ws : List SymbolicSet) → begun p (map (λ r. lit ∷ r) rows) (w ∷ ws) ≡ begun (conjunction p (factor lit w)) rows ws
begun_behind p lit [] w ws = refl
begun_behind p lit (row ∷ rows) w ws = ap (λ fs. whole conjunction (conjunction p (factor lit w)) (factors row ws) ∷ fs) (begun_behind p lit rows w ws)

-- ---- sets that are nowhere empty

abbrev pub AreFull : ℕ → List SymbolicSet → Type 0
AreFull vars ws = All (λ w. (bits : List Bool) → length bits ≡ vars → some_bit w bits ≡ true) ws

and_one : (a b : Bool) → b ≡ true → (a && b) ≡ a
and_one true b e = e
and_one false b e = refl

blanks : (vars n : ℕ) (q : Function) (ws : List SymbolicSet) → AreFull vars ws → (bits : List Bool) → length bits ≡ vars → whole conjunction q (factors (replicate n Any) ws) bits ≡ q bits
blanks vars zero q ws full bits l = refl
blanks vars (suc n) q [] full bits l = refl
blanks vars (suc n) q (w ∷ ws) full bits l =
    blanks vars n (conjunction q (some_bit w)) ws (All-tail (λ (v : SymbolicSet). (bits : List Bool) → length bits ≡ vars → some_bit v bits ≡ true) w ws full) bits l
    ∙ and_one (q bits) (some_bit w bits) (All-head (λ (v : SymbolicSet). (bits : List Bool) → length bits ≡ vars → some_bit v bits ≡ true) w ws full bits l)

-- ---- sum by sum

-- where f is what was refused so far, g the same sum of the rows, and p the product that has begun
pub record Follows (vars : ℕ) (row : List Lit) (ws : List SymbolicSet) (f g p : Function) : Type 0 where
  pub each : Covers vars (refused_sums f row ws) (chain disjunction g (begun p (row_others row) ws))
  pub ends : (bits : List Bool) → length bits ≡ vars → whole disjunction g (begun p (row_others row) ws) bits ≡ refused_total f row ws bits

more_has : (vars : ℕ) (g : Function) (gs : List Function) (f : Function) → Has vars gs f → Has vars (g ∷ gs) f
more_has vars g gs f (h, has, same) = (h, behind g gs h has, same)

covers_more : (vars : ℕ) (f : Function) (fs : List Function) (g : Function) (gs : List Function) → ((bits : List Bool) → length bits ≡ vars → g bits ≡ f bits) → Covers vars fs gs → Covers vars (f ∷ fs) (g ∷ gs)
covers_more vars f fs g gs same covers h (zero, lt, e) = subst (Has vars (g ∷ gs)) e (g, here g gs, same)
covers_more vars f fs g gs same covers h (suc k, lt, e) = more_has vars g gs h (covers h (k, omega arith, e))

covers_none : (vars : ℕ) (gs : List Function) → Covers vars [] gs
covers_none vars gs h (k, lt, e) = absurd (omega arith)

only_blank : (row : List Lit) (f : Function) (ws : List SymbolicSet) → has_only_any row ≡ true → (refused_sums f row ws ≡ []) × (refused_total f row ws ≡ f)
only_blank [] f ws e = (refl, refl)
only_blank (Any ∷ row) f [] e = (refl, refl)
only_blank (Any ∷ row) f (w ∷ ws) e = only_blank row f ws e
only_blank (Zero ∷ row) f ws e = absurd (false≢true e)
only_blank (One ∷ row) f ws e = absurd (false≢true e)

-- where what was not refused was asked
abbrev pub Meets : ℕ → Function → Function → Type 0
Meets vars g p = (bits : List Bool) → length bits ≡ vars → (g bits || p bits) ≡ true

still_one : (g p z o : Bool) → (g || p) ≡ true → (z || o) ≡ true → ((g || (p && z)) || (p && o)) ≡ true
still_one true p z o e f = refl
still_one false true true o e f = refl
still_one false true false o e f = f
still_one false false z o e f = absurd (false≢true e)

still_any : (g p a : Bool) → (g || p) ≡ true → a ≡ true → (g || (p && a)) ≡ true
still_any true p a e f = refl
still_any false p a e f = ap (λ b. b && a) e ∙ f

-- what a literal refuses behind the others is what it refuses alone
refused_alone : (f g p z : Bool) → g ≡ f → (g || p) ≡ true → (g || (p && z)) ≡ (f || z)
refused_alone true true p z e m = refl
refused_alone false true p z e m = absurd (false≢true (sym e))
refused_alone true false p z e m = absurd (false≢true e)
refused_alone false false p z e m = ap (λ b. b && z) m

pub follows : (vars : ℕ) (row : List Lit) (ws : List SymbolicSet) (f g p : Function) → length row ≡ length ws → is_rising row ≡ true → AreFull vars ws → ((bits : List Bool) → length bits ≡ vars → g bits ≡ f bits) → Meets vars g p
    → Follows vars row ws f g p
follows vars [] ws f g p long rising full same meets = record { each = covers_none vars []; ends = same }
follows vars (lit ∷ row) [] f g p long rising full same meets = absurd (omega arith)
follows vars (Any ∷ row) (w ∷ ws) f g p long rising full same meets =
    let head = All-head (λ (v : SymbolicSet). (bits : List Bool) → length bits ≡ vars → some_bit v bits ≡ true) w ws full in
    let tail : AreFull vars ws = All-tail (λ (v : SymbolicSet). (bits : List Bool) → length bits ≡ vars → some_bit v bits ≡ true) w ws full in
    let q : Function = conjunction p (some_bit w) in
    let r = follows vars row ws f g q (omega arith) rising tail same (λ bits l. still_any (g bits) (p bits) (some_bit w bits) (meets bits l) (head bits l)) in
    let is = begun_behind p Any (row_others row) w ws in
    record {
      each = subst (λ fs. Covers vars (refused_sums f row ws) (chain disjunction g fs)) (sym is) r.each;
      ends = λ bits l. ap (λ fs. whole disjunction g fs bits) is ∙ r.ends bits l;
    }
follows vars (One ∷ row) (w ∷ ws) f g p long rising full same meets =
    let head = All-head (λ (v : SymbolicSet). (bits : List Bool) → length bits ≡ vars → some_bit v bits ≡ true) w ws full in
    let tail : AreFull vars ws = All-tail (λ (v : SymbolicSet). (bits : List Bool) → length bits ≡ vars → some_bit v bits ≡ true) w ws full in
    let q : Function = conjunction p w.one in
    let x : Function = whole conjunction (conjunction p w.zero) (factors (replicate (length row) Any) ws) in
    let f' : Function = disjunction f w.zero in
    let g' : Function = disjunction g x in
    let x_is : (bits : List Bool) → length bits ≡ vars → x bits ≡ (p bits && w.zero bits) = blanks vars (length row) (conjunction p w.zero) ws tail in
    let same' : (bits : List Bool) → length bits ≡ vars → g' bits ≡ f' bits =
    λ bits l. ap (λ b. g bits || b) (x_is bits l) ∙ refused_alone (f bits) (g bits) (p bits) (w.zero bits) (same bits l) (meets bits l) in
    let meets' : Meets vars g' q = λ bits l. ap (λ b. (g bits || b) || (p bits && w.one bits)) (x_is bits l) ∙ still_one (g bits) (p bits) (w.zero bits) (w.one bits) (meets bits l) (head bits l) in
    let r = follows vars row ws f' g' q (omega arith) rising tail same' meets' in
    let is = begun_behind p One (row_others row) w ws in
    record {
      each = covers_more vars f' (refused_sums f' row ws) g' (chain disjunction g' (begun p (map (λ (r : List Lit). One ∷ r) (row_others row)) (w ∷ ws))) same' (subst (λ fs. Covers vars (refused_sums f' row ws) (chain disjunction g' fs)) (sym is) r.each);
      ends = λ bits l. ap (λ fs. whole disjunction g' fs bits) is ∙ r.ends bits l;
    }
follows vars (Zero ∷ row) (w ∷ ws) f g p long rising full same meets =
    let tail : AreFull vars ws = All-tail (λ (v : SymbolicSet). (bits : List Bool) → length bits ≡ vars → some_bit v bits ≡ true) w ws full in
    let x : Function = whole conjunction (conjunction p w.one) (factors (replicate (length row) Any) ws) in
    let f' : Function = disjunction f w.one in
    let g' : Function = disjunction g x in
    let same' : (bits : List Bool) → length bits ≡ vars → g' bits ≡ f' bits =
    λ bits l. ap (λ b. g bits || b) (blanks vars (length row) (conjunction p w.one) ws tail bits l) ∙ refused_alone (f bits) (g bits) (p bits) (w.one bits) (same bits l) (meets bits l) in
    let rows_are : row_others (Zero ∷ row) ≡ (One ∷ replicate (length row) Any) ∷ [] = ap (λ rows. map (λ (r : List Lit). Zero ∷ r) rows ++ (One ∷ replicate (length row) Any) ∷ []) (no_others row rising) in
    let blank = only_blank row f' ws rising in
    record {
      each = subst (λ rows. Covers vars (refused_sums f (Zero ∷ row) (w ∷ ws)) (chain disjunction g (begun p rows (w ∷ ws)))) (sym rows_are)
          (covers_more vars f' (refused_sums f' row ws) g' [] same' (subst (λ fs. Covers vars fs []) (sym blank.0) (covers_none vars [])));
      ends = λ bits l. ap (λ rows. whole disjunction g (begun p rows (w ∷ ws)) bits) rows_are ∙ same' bits l ∙ ap (λ (h : Function). h bits) (sym blank.1);
    }

-- ---- from the beginning

pub record Refuses (vars : ℕ) (row : List Lit) (ws : List SymbolicSet) : Type 0 where
  pub each : Covers vars (refused_sums never row ws) (rows_work (row_others row) ws)
  pub ends : (bits : List Bool) → length bits ≡ vars → sum (row_products (row_others row) ws) bits ≡ refused_total never row ws bits

pub refuses : (vars : ℕ) (row : List Lit) (ws : List SymbolicSet) → length row ≡ length ws → is_rising row ≡ true → AreFull vars ws → Refuses vars row ws
refuses vars row ws long rising full =
    let r = follows vars row ws never never always long rising full (λ bits l. refl) (λ bits l. refl) in
    let rows : List (List Lit) = row_others row in
    let is = begun_is rows ws in
    record {
      each = λ f has.
          let h = subst (λ fs. Covers vars (refused_sums never row ws) (chain disjunction never fs)) (sym is) r.each f has in (
            h.0,
            Contains-append_right (map some_bit ws) (rows_chains rows ws ++ sums (row_products rows ws)) h.0 (Contains-append_right (rows_chains rows ws) (sums (row_products rows ws)) h.0 h.1),
            h.2,
          );
      ends = λ bits l. ap (λ fs. whole disjunction never fs bits) is ∙ r.ends bits l;
    }

-- ---- the gate

module _ (row : List Lit) (ws : List SymbolicSet) (s t : Store) (result : Result Rails OpFault) where
  abbrev one_of : Function
  one_of = sum (row_products (row ∷ []) ws)

  abbrev zero_of : Function
  zero_of = refused_total never row ws

  -- the functions of both rails, where the row is an own one
  abbrev pub row_work : List Function
  row_work = rows_work (row ∷ []) ws ++ refused_sums never row ws

  abbrev pub RowSet : SymbolicSet
  RowSet = record { zero = zero_of; one = one_of }

  rows_have : Refuses s.vars row ws → (work : List Function) → Covers s.vars (rows_work (row ∷ []) ws) work → Covers s.vars (rows_work (row_others row) ws) work → Covers s.vars row_work work
  rows_have r work own others f has = elim (Contains-append_cases (rows_work (row ∷ []) ws) (refused_sums never row ws) f has) [
    | inl h ↦ own f h
    | inr h ↦
        let k = r.each f h in
        let m = others k.0 k.1 in
        (m.0, m.1, λ bits l. m.2 bits l ∙ k.2 bits l)
  ]

  pub row_on : Refuses s.vars row ws → Built row_work (HasSet RowSet) s t result
      → Built (gate_work (row ∷ []) (row_others row) ws) (HasSet (gate_set (row ∷ []) (row_others row) ws)) s t result
  row_on r b =
      let on : List Function = rows_work (row ∷ []) ws in
      let off : List Function = rows_work (row_others row) ws in
      Built-good (on ++ off) (HasSet RowSet) (HasSet (gate_set (row ∷ []) (row_others row) ws)) s t result
      (λ a m. record { zero = Means-same t zero_of (sum (row_products (row_others row) ws)) a.can0 (λ bits l. sym (r.ends bits (l ∙ b.spends.keeps.vars))) m.zero; one = m.one })
      (Built-covers (on ++ off) row_work (HasSet RowSet) s t result
      (rows_have r (on ++ off) (within_covers s.vars on (on ++ off) (Contains-append_left on off)) (within_covers s.vars off (on ++ off) (Contains-append_right on off))) b)

  -- where it is an off-row
  abbrev pub AgainstSet : Store → Rails → Type 0
  AgainstSet u a = AreRails u (gate_set (row_others row) (row ∷ []) ws) (record { can0 = a.can1; can1 = a.can0 })

  pub row_off : Refuses s.vars row ws → Built row_work (HasSet RowSet) s t result
      → Built (gate_work (row_others row) (row ∷ []) ws) AgainstSet s t result
  row_off r b =
      let on : List Function = rows_work (row_others row) ws in
      let off : List Function = rows_work (row ∷ []) ws in
      Built-good (on ++ off) (HasSet RowSet) AgainstSet s t result
      (λ a m. record { one = Means-same t zero_of (sum (row_products (row_others row) ws)) a.can0 (λ bits l. sym (r.ends bits (l ∙ b.spends.keeps.vars))) m.zero; zero = m.one })
      (Built-covers (on ++ off) row_work (HasSet RowSet) s t result
      (rows_have r (on ++ off) (within_covers s.vars off (on ++ off) (Contains-append_right on off)) (within_covers s.vars on (on ++ off) (Contains-append_left on off))) b)

-- the lists of rows of a cover of one row
pub record OneRow (cover : Cover) (row : List Lit) : Type 0 where
  pub own : cover.rows ≡ row ∷ []
  pub others : others_in cover ≡ row_others row

pub one_row : (cover : Cover) (row : List Lit) → IsCover cover → cover.rows ≡ row ∷ [] → OneRow cover row
one_row cover row sound is =
    let wide : length row ≡ cover.inputs = All-head (λ (r : List Lit). length r ≡ cover.inputs) row [] (subst (λ (rows : List (List Lit)). All (λ r. length r ≡ cover.inputs) rows) is sound.wide) in
    record { own = is; others = ap (λ n. others_of n cover.rows) (sym wide) ∙ ap (others_of (length row)) is ∙ others_are row }

pub on_lists : (cover : Cover) (row : List Lit) → OneRow cover row → cover.on ≡ true → (on_rows cover ≡ row ∷ []) × (off_rows cover ≡ row_others row)
on_lists cover row o on = (
  ap (λ (b : Bool). if b then cover.rows else others_in cover) on ∙ o.own,
  ap (λ (b : Bool). if b then others_in cover else cover.rows) on ∙ o.others,
)

pub off_lists : (cover : Cover) (row : List Lit) → OneRow cover row → cover.on ≡ false → (on_rows cover ≡ row_others row) × (off_rows cover ≡ row ∷ [])
off_lists cover row o on = (
  ap (λ (b : Bool). if b then cover.rows else others_in cover) on ∙ o.others,
  ap (λ (b : Bool). if b then others_in cover else cover.rows) on ∙ o.own,
)

-- the sets of inputs that are nowhere empty
pub full_inputs : (sets : ℕ → SymbolicSet) (nets : List NetRails) (inputs : List NodeId) (s : Store) → IsGood s → All (λ input. (net_at nets input.0).some ≡ record { 0 = 1 }) inputs → HaveInputs s sets nets inputs
    → AreFull s.vars (sets_at sets inputs)
full_inputs sets nets inputs s d full have = go inputs (λ i e inside bits l. one_at s (some_bit (sets (get_or inputs i e).0)) (net_at nets (get_or inputs i e).0).some d (ap (λ (r : Ref). r.0) (full i e inside)) (have i e inside).some bits l)
  where
    go : (ids : List NodeId) → All (λ input. (bits : List Bool) → length bits ≡ s.vars → some_bit (sets input.0) bits ≡ true) ids → AreFull s.vars (sets_at sets ids)
    go [] h = All-nil (λ (w : SymbolicSet). (bits : List Bool) → length bits ≡ s.vars → some_bit w bits ≡ true)
    go (id ∷ ids) h = All-cons (λ (w : SymbolicSet). (bits : List Bool) → length bits ≡ s.vars → some_bit w bits ≡ true) (sets id.0) (sets_at sets ids)
        (All-head (λ (input : NodeId). (bits : List Bool) → length bits ≡ s.vars → some_bit (sets input.0) bits ≡ true) id ids h) (go ids (All-tail (λ (input : NodeId). (bits : List Bool) → length bits ≡ s.vars → some_bit (sets input.0) bits ≡ true) id ids h))

-- the same by the cover's lists
module _ (cover : Cover) (row : List Lit) (ws : List SymbolicSet) (s t : Store) (sound : IsCover cover) (is : cover.rows ≡ row ∷ []) (long : length ws ≡ cover.inputs) (rises : is_rising row ≡ true) (full : AreFull s.vars ws) where
  o : OneRow cover row
  o = one_row cover row sound is

  wide : length row ≡ length ws
  wide = All-head (λ (r : List Lit). length r ≡ cover.inputs) row [] (subst (λ (rows : List (List Lit)). All (λ r. length r ≡ cover.inputs) rows) is sound.wide) ∙ sym long

  -- what a call with an own list of rows builds
  abbrev pub ByRow : Result Rails OpFault → List (List Lit) → Type 0
  ByRow result rows = Built (rows_work rows ws ++ refused_sums never row ws) (HasSet (record { zero = refused_total never row ws; one = sum (row_products rows ws) })) s t result

  pub rising_on : (result : Result Rails OpFault) → cover.on ≡ true → ByRow result (on_rows cover)
      → Built (gate_work (on_rows cover) (off_rows cover) ws) (HasSet (gate_set (on_rows cover) (off_rows cover) ws)) s t result
  rising_on result on b =
      let lists = on_lists cover row o on in
      subst (λ (rows : List (List Lit)). Built (gate_work rows (off_rows cover) ws) (HasSet (gate_set rows (off_rows cover) ws)) s t result) (sym lists.0)
      (subst (λ (rows : List (List Lit)). Built (gate_work (row ∷ []) rows ws) (HasSet (gate_set (row ∷ []) rows ws)) s t result) (sym lists.1)
      (row_on row ws s t result (refuses s.vars row ws wide rises full) (subst (ByRow result) lists.0 b)))

  -- what the call gives of the cover's set, swapped
  abbrev pub SwappedRow : Store → Rails → Type 0
  SwappedRow u a = AreRails u (gate_set (on_rows cover) (off_rows cover) ws) (record { can0 = a.can1; can1 = a.can0 })

  pub rising_off : (result : Result Rails OpFault) → cover.on ≡ false → ByRow result (off_rows cover) → Built (gate_work (on_rows cover) (off_rows cover) ws) SwappedRow s t result
  rising_off result off b =
      let lists = off_lists cover row o off in
      subst (λ (rows : List (List Lit)). Built (gate_work rows (off_rows cover) ws) (λ u (a : Rails). AreRails u (gate_set rows (off_rows cover) ws) (record { can0 = a.can1; can1 = a.can0 })) s t result) (sym lists.0)
      (subst (λ (rows : List (List Lit)). Built (gate_work (row_others row) rows ws) (λ u (a : Rails). AreRails u (gate_set (row_others row) rows ws) (record { can0 = a.can1; can1 = a.can0 })) s t result) (sym lists.1)
      (row_off row ws s t result (refuses s.vars row ws wide rises full) (subst (ByRow result) lists.1 b)))
