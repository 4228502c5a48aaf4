-- A sum over rows, piece by piece.
use Rattle.std.proofs.Common.{◌≡◌, ℕ, zero, suc, ◌+◌, ◌<◌, ◌≤◌, true, false, List, [], ◌∷◌, ◌++◌, length, take, map, get_or, set, refl, sym, ◌∙◌, ap, subst, arith, inl, inr, Contains, Result, Ok, All, get_or-set_same, get_or-set_other}
use Rattle.std.proofs.lemmas.Bool.{cases_eq}
use Rattle.std.proofs.lemmas.List.{length-map, length-append, length-take-le, get_or-take, take-append-le}
use Rattle.std.proofs.lemmas.List.Elements.{Contains-append_left, Contains-append_right}
use Rattle.std.proofs.Math.Seq.{take-length, take-append_seam, get_or-append_seam}
use Rattle.ste_base.specs.declared.id.NodeId.{NodeId}
use Rattle.dd_nodes.specs.declared.node.Ref.{Ref}
use Rattle.ste_base.specs.Functions.{Function}
use Rattle.dd_nodes.specs.Stores.{Store, IsRef, Keeps, Means}
use Rattle.dd_nodes.proofs.Walks.{IsFrom-grows}
use Rattle.dd_nodes.proofs.Stores.{IsGood, Keeps-refl, Keeps-trans, Means-keeps}
use Rattle.dd_nodes.proofs.Spending.{one_means, zero_means}
use Rattle.dd_ops.specs.declared.fault.OpFault.{OpFault}
use Rattle.net_core.specs.declared.cover.Lit.{Lit}
use Rattle.net_core.specs.declared.cover.Lit.TheVariants.{Any}
use Rattle.net_core.specs.Work.{SymbolicSet, everything, always, never, conjunction, disjunction, chain, whole, factor, factors, product, products, sum, sums, some_bit, row_products, rows_chains, rows_work}
use Rattle.dual_rail.specs.Rail.{Built, HasFunction}
use Rattle.dual_rail.proofs.Works.{Within, here, behind, So-start, Built-wider, Built-made, first, last}
use Rattle.dual_rail.proofs.Turns.{within_more}
use Rattle.gate_sets.specs.declared.net_rails.NetRails.{NetRails}
use Rattle.gate_sets.specs.declared.piece.Piece.{Piece}
use Rattle.gate_sets.specs.declared.piece.Piece.TheVariants.{Put, Close}
use Rattle.gate_sets.specs.NetSets.{AreNetRails, HaveInputs, sets_at}
use Rattle.gate_sets.specs.private.Sums.{IsGoing, SumsTo}
use Rattle.gate_sets.specs.private.Pieces.{padded, rows_from, are_sound}
use Rattle.gate_sets.proofs.Compressing.{NextRow, next_row, padded_long, padded_blank, put_fits, close_kept, take-take}
use Rattle.gate_sets.proofs.NetRefs.{Net-keeps, Inputs-keep, input_here, set_here}
use Rattle.gate_sets.proofs.Summing.{begun_product, product_in, within_one}

take-factors : (n : ℕ) (row : List Lit) (ws : List SymbolicSet) → factors (take n row) ws ≡ take n (factors row ws)
take-factors zero row ws = refl
take-factors (suc n) [] ws = refl
take-factors (suc n) (lit ∷ row) [] = refl
take-factors (suc n) (lit ∷ row) (w ∷ ws) = ap (λ fs. factor lit w ∷ fs) (take-factors n row ws)

chains_within : (rows : List (List Lit)) (ws : List SymbolicSet) → Within (rows_chains rows ws) (rows_work rows ws)
chains_within rows ws f h = Contains-append_right (map some_bit ws) (rows_chains rows ws ++ sums (row_products rows ws)) f (Contains-append_left (rows_chains rows ws) (sums (row_products rows ws)) f h)

sums_within : (rows : List (List Lit)) (ws : List SymbolicSet) → Within (sums (row_products rows ws)) (rows_work rows ws)
sums_within rows ws f h = Contains-append_right (map some_bit ws) (rows_chains rows ws ++ sums (row_products rows ws)) f (Contains-append_right (rows_chains rows ws) (sums (row_products rows ws)) f h)

-- before any piece
pub sums_start : (rows : List (List Lit)) (ws : List SymbolicSet) (width : ℕ) (pieces : List Piece) (products : List Ref) (s : Store) → IsGood s → rows_from width [] pieces ≡ rows
    → ((d : Ref) → get_or products 0 d ≡ record { 0 = 1 }) → SumsTo rows ws width [] pieces products (record { 0 = 0 }) s s
sums_start rows ws width pieces products s d is one = record {
  so = So-start (rows_work rows ws) s;
  begins = λ j e le. let zero_is : 0 ≡ j = omega arith in subst (λ (i : ℕ). Means s (product (factors (take i []) ws)) (get_or products i e)) zero_is (subst (Means s always) (sym (one e)) (one_means s d));
  f = never;
  total = zero_means s d;
  chains = λ g has. subst (λ (rs : List (List Lit)). Contains (rows_chains rs ws) g) is has;
  summed = λ g has. subst (λ (rs : List (List Lit)). Contains (sums (row_products rs ws)) g) is has;
  ends = ap (λ (rs : List (List Lit)). sum (row_products rs ws)) is;
}

-- the products of a row
abbrev pub row_chain : List Lit → List SymbolicSet → List Function
row_chain row ws = products (factors row ws)

-- the products of a row that is padded
abbrev pub products_of : ℕ → List Lit → List SymbolicSet → List Function
products_of width begun ws = row_chain (padded width begun) ws

-- the product of the row so far
pub so_far : (rows : List (List Lit)) (ws : List SymbolicSet) (width : ℕ) (begun : List Lit) (rest : List Piece) (products : List Ref) (all : Ref) (s t : Store)
    → SumsTo rows ws width begun rest products all s t → (d : Ref) → Means t (product (factors begun ws)) (get_or products (length begun) d)
so_far rows ws width begun rest products all s t p d =
    subst (λ (row : List Lit). Means t (product (factors row ws)) (get_or products (length begun) d)) (take-length begun) (p.begins (length begun) d (omega arith))

-- one more literal
pub put_built : (rows : List (List Lit)) (ws : List SymbolicSet) (width : ℕ) (begun : List Lit) (lit : Lit) (rest : List Piece) (products : List Ref) (all : Ref) (s t u : Store) (w : SymbolicSet) (result : Result Ref OpFault)
    → length ws ≡ width → IsGood t → IsGood u → length begun < width → are_sound width (length begun + 1) true rest ≡ true → get_or ws (length begun) everything ≡ w
    → SumsTo rows ws width begun (Put lit ∷ rest) products all s t
    → Built (conjunction (product (factors begun ws)) (factor lit w) ∷ []) (HasFunction (conjunction (product (factors begun ws)) (factor lit w))) t u result
    → Built (rows_work rows ws) (HasFunction (product (factors (begun ++ lit ∷ []) ws))) s u result
put_built rows ws width begun lit rest products all s t u w result wide dt du lt sound is_w p made =
    let n : ℕ = length begun in
    let more_is : length (begun ++ lit ∷ []) ≡ n + 1 = length-append begun (lit ∷ []) in
    let r : NextRow width (begun ++ lit ∷ []) rest = next_row width (begun ++ lit ∷ []) rest (omega (arith, more_is, lt)) (subst (λ m. are_sound width m true rest ≡ true) (sym more_is) sound) in
    let row : List Lit = r.row in
    let long = r.long in
    let begins : take (n + 1) row ≡ begun ++ lit ∷ [] = ap (λ m. take m row) (sym more_is) ∙ r.begins in
    let old : take n row ≡ begun = sym (take-take n (n + 1) row (omega arith)) ∙ ap (take n) begins ∙ take-append_seam begun (lit ∷ []) in
    let lit_is : get_or row n Any ≡ lit = sym (get_or-take (n + 1) row n Any (omega arith)) ∙ ap (λ xs. get_or xs n Any) begins ∙ get_or-append_seam begun lit [] Any in
    let q = product_in row ws n lit w (omega (arith, long, wide)) (omega (arith, long, lt)) lit_is is_w in
    let same : begun_product row ws n ≡ product (factors begun ws) = ap (whole conjunction always) (sym (take-factors n row ws)) ∙ ap (λ xs. product (factors xs ws)) old in
    let f : Function = conjunction (product (factors begun ws)) (factor lit w) in
    let in_row : Contains (row_chain row ws) f = subst (λ (h : Function). Contains (row_chain row ws) (conjunction h (factor lit w))) same q.0 in
    let in_rows : Contains (rows_chains (rows_from width begun (Put lit ∷ rest)) ws) f = subst (λ (rs : List (List Lit)). Contains (rows_chains rs ws) f) (sym r.is) (Contains-append_left (row_chain row ws) (rows_chains r.others ws) f in_row) in
    let end : f ≡ product (factors (begun ++ lit ∷ []) ws) = ap (λ h. conjunction h (factor lit w)) (sym same) ∙ sym q.1 ∙ ap (whole conjunction always) (sym (take-factors (n + 1) row ws)) ∙ ap (λ xs. product (factors xs ws)) begins in
    let work : List Function = rows_work rows ws in
    subst (λ (h : Function). Built work (HasFunction h) s u result) end
    (last work (HasFunction f) s t u result dt du p.so (Built-wider work (f ∷ []) (HasFunction f) t u result (within_one f work (chains_within rows ws f (p.chains f in_rows))) made))

pub put_sums : (rows : List (List Lit)) (ws : List SymbolicSet) (width : ℕ) (begun : List Lit) (lit : Lit) (rest : List Piece) (products : List Ref) (all : Ref) (s t u : Store) (new : Ref)
    → IsGood t → IsGood u → Keeps t u → length begun + 1 < length products
    → SumsTo rows ws width begun (Put lit ∷ rest) products all s t → Built (rows_work rows ws) (HasFunction (product (factors (begun ++ lit ∷ []) ws))) s u (Ok new)
    → SumsTo rows ws width (begun ++ lit ∷ []) rest (set products (length begun + 1) new) all s u
put_sums rows ws width begun lit rest products all s t u new dt du k room p made =
    let n : ℕ = length begun in
    let more_is : length (begun ++ lit ∷ []) ≡ n + 1 = length-append begun (lit ∷ []) in
    record {
      so = first (rows_work rows ws) _ s u (Ok new) made;
      begins = λ j d le. elim (cases_eq j (n + 1)) [
        | inl now ↦
            let whole_row : take j (begun ++ lit ∷ []) ≡ begun ++ lit ∷ [] = ap (λ m. take m (begun ++ lit ∷ [])) (now ∙ sym more_is) ∙ take-length (begun ++ lit ∷ []) in
            let at : get_or (set products (n + 1) new) j d ≡ new = ap (λ i. get_or (set products (n + 1) new) i d) now ∙ get_or-set_same products (n + 1) new d room in
            subst (Means u (product (factors (take j (begun ++ lit ∷ [])) ws))) (sym at) (subst (λ (xs : List Lit). Means u (product (factors xs ws)) new) (sym whole_row) made.ok)
        | inr other ↦
            let old : j ≤ n = omega (arith, le, more_is, other) in
            let at : get_or (set products (n + 1) new) j d ≡ get_or products j d = get_or-set_other products (n + 1) j new d other in
            subst (Means u (product (factors (take j (begun ++ lit ∷ [])) ws))) (sym at)
            (subst (λ (xs : List Lit). Means u (product (factors xs ws)) (get_or products j d)) (sym (take-append-le j begun (lit ∷ []) old))
            (Means-keeps t u (product (factors (take j begun) ws)) (get_or products j d) dt du k (p.begins j d old)))
      ];
      f = p.f;
      total = Means-keeps t u p.f all dt du k p.total;
      chains = p.chains;
      summed = p.summed;
      ends = p.ends;
    }

-- the end of a row
pub close_built : (rows : List (List Lit)) (ws : List SymbolicSet) (width : ℕ) (begun : List Lit) (kept : ℕ) (rest : List Piece) (products : List Ref) (all : Ref) (s t u : Store) (result : Result Ref OpFault)
    → IsGood t → IsGood u → (p : SumsTo rows ws width begun (Close kept ∷ rest) products all s t)
    → Built (disjunction p.f (product (factors (padded width begun) ws)) ∷ products_of width begun ws) (HasFunction (disjunction p.f (product (factors (padded width begun) ws)))) t u result
    → Built (rows_work rows ws) (HasFunction (disjunction p.f (product (factors (padded width begun) ws)))) s u result
close_built rows ws width begun kept rest products all s t u result dt du p made =
    let row : List Lit = padded width begun in
    let fs : List Function = factors row ws in
    let f : Function = disjunction p.f (product fs) in
    let others : List (List Lit) = rows_from width (take kept begun) rest in
    let work : List Function = rows_work rows ws in
    last work (HasFunction f) s t u result dt du p.so (Built-wider work (f ∷ products_of width begun ws) (HasFunction f) t u result
    (within_more f (products_of width begun ws) work (sums_within rows ws f (p.summed f (here f (chain disjunction f (row_products others ws)))))
    (λ h has. chains_within rows ws h (p.chains h (Contains-append_left (products_of width begun ws) (rows_chains others ws) h has)))) made)

pub close_sums : (rows : List (List Lit)) (ws : List SymbolicSet) (width : ℕ) (begun : List Lit) (kept : ℕ) (rest : List Piece) (products : List Ref) (all : Ref) (s t u : Store) (new : Ref)
    → IsGood t → IsGood u → Keeps t u → kept ≤ length begun → (p : SumsTo rows ws width begun (Close kept ∷ rest) products all s t)
    → Built (rows_work rows ws) (HasFunction (disjunction p.f (product (factors (padded width begun) ws)))) s u (Ok new)
    → SumsTo rows ws width (take kept begun) rest products new s u
close_sums rows ws width begun kept rest products all s t u new dt du k le p made =
    let m = length-take-le kept begun le in
    let others : List (List Lit) = rows_from width (take kept begun) rest in
    let f : Function = disjunction p.f (product (factors (padded width begun) ws)) in
    record {
      so = first (rows_work rows ws) _ s u (Ok new) made;
      begins = λ j d less.
          let low : j ≤ kept = omega (arith, less, m) in
          subst (λ (xs : List Lit). Means u (product (factors xs ws)) (get_or products j d)) (sym (take-take j kept begun low))
          (Means-keeps t u (product (factors (take j begun) ws)) (get_or products j d) dt du k (p.begins j d (omega (arith, low, le))));
      f = f;
      total = made.ok;
      chains = λ g has. p.chains g (Contains-append_right (products_of width begun ws) (rows_chains others ws) g has);
      summed = λ g has. p.summed g (behind f (chain disjunction f (row_products others ws)) g has);
      ends = p.ends;
    }

-- ---- for all sets that the inputs have

pub going_start : (rows : List (List Lit)) (nets : List NetRails) (inputs : List NodeId) (pieces : List Piece) (products : List Ref) (s : Store) → IsGood s → rows_from (length inputs) [] pieces ≡ rows
    → are_sound (length inputs) 0 false pieces ≡ true → ((d : Ref) → get_or products 0 d ≡ record { 0 = 1 }) → IsGoing rows nets inputs 0 pieces products (record { 0 = 0 }) s s
going_start rows nets inputs pieces products s d is sound one = record {
  begun = [];
  awaits = false;
  long = refl;
  within = omega arith;
  sound = sound;
  keeps = Keeps-refl s;
  refs = λ j e le. let zero_is : 0 ≡ j = omega arith in subst (λ i. IsRef s (get_or products i e)) zero_is (subst (IsRef s) (sym (one e)) (one_means s d).ref);
  ref_of = (zero_means s d).ref;
  so = λ sets have. sums_start rows (sets_at sets inputs) (length inputs) pieces products s d is one;
}

module _ (rows : List (List Lit)) (nets : List NetRails) (inputs : List NodeId) (n : ℕ) (after : List Piece) (products : List Ref) (all : Ref) (s t u : Store) (ds : IsGood s) (dt : IsGood t) (du : IsGood u) where
  sets_long : (sets : ℕ → SymbolicSet) → length (sets_at sets inputs) ≡ length inputs
  sets_long sets = length-map inputs (λ (input : NodeId). sets input.0)

  pub going_put_built : (lit : Lit) (p : IsGoing rows nets inputs n (Put lit ∷ after) products all s t) (id : NodeId) (r : NetRails) (d : Ref) (result : Result Ref OpFault)
      → All (λ input. input.0 < length nets) inputs → get_or inputs n id ≡ id → get_or nets id.0 r ≡ r
      → ((f : Function) (w : SymbolicSet) → Means t f (get_or products n d) → AreNetRails t w r → Built (conjunction f (factor lit w) ∷ []) (HasFunction (conjunction f (factor lit w))) t u result)
      → (sets : ℕ → SymbolicSet) → HaveInputs s sets nets inputs
      → Built (rows_work rows (sets_at sets inputs)) (HasFunction (product (factors (p.begun ++ lit ∷ []) (sets_at sets inputs)))) s u result
  going_put_built lit p id r d result inside is_id is_r call sets have =
      let ws : List SymbolicSet = sets_at sets inputs in
      let q = p.so sets have in
      let fit = put_fits (length inputs) n lit p.awaits after p.sound in
      let lt : length p.begun < length inputs = subst (λ m. m < length inputs) (sym p.long) fit.0 in
      let sound : are_sound (length inputs) (length p.begun + 1) true after ≡ true = subst (λ m. are_sound (length inputs) (m + 1) true after ≡ true) (sym p.long) fit.1 in
      let is_w : get_or ws (length p.begun) everything ≡ sets id.0 = ap (λ m. get_or ws m everything) p.long ∙ set_here sets inputs n id fit.0 is_id in
      let aw : AreNetRails t (sets id.0) r = Net-keeps s t (sets id.0) r ds dt p.keeps (input_here s sets nets inputs n id r inside fit.0 is_id is_r have) in
      let begun_means : Means t (product (factors p.begun ws)) (get_or products n d) = subst (λ m. Means t (product (factors p.begun ws)) (get_or products m d)) p.long (so_far rows ws (length inputs) p.begun (Put lit ∷ after) products all s t q d) in
      put_built rows ws (length inputs) p.begun lit after products all s t u (sets id.0) result (sets_long sets) dt du lt sound is_w q (call (product (factors p.begun ws)) (sets id.0) begun_means aw)

  pub going_put : (lit : Lit) (p : IsGoing rows nets inputs n (Put lit ∷ after) products all s t) (new : Ref) → n + 1 < length products → Keeps t u → IsRef u new
      → ((sets : ℕ → SymbolicSet) → HaveInputs s sets nets inputs → Built (rows_work rows (sets_at sets inputs)) (HasFunction (product (factors (p.begun ++ lit ∷ []) (sets_at sets inputs)))) s u (Ok new))
      → IsGoing rows nets inputs (n + 1) after (set products (n + 1) new) all s u
  going_put lit p new room k ref made =
      let fit = put_fits (length inputs) n lit p.awaits after p.sound in
      record {
        begun = p.begun ++ lit ∷ [];
        awaits = true;
        long = length-append p.begun (lit ∷ []) ∙ ap (λ m. m + 1) p.long;
        within = let lt = fit.0 in omega arith;
        sound = fit.1;
        keeps = Keeps-trans s t u p.keeps k;
        refs = λ j d le. elim (cases_eq j (n + 1)) [
          | inl now ↦ subst (IsRef u) (sym (ap (λ i. get_or (set products (n + 1) new) i d) now ∙ get_or-set_same products (n + 1) new d room)) ref
          | inr other ↦ subst (IsRef u) (sym (get_or-set_other products (n + 1) j new d other)) (IsFrom-grows t.held u.held 0 (get_or products j d) k.grows (p.refs j d (omega (arith, le, other))))
        ];
        ref_of = IsFrom-grows t.held u.held 0 all k.grows p.ref_of;
        so = λ sets have.
            subst (λ (ps : List Ref). SumsTo rows (sets_at sets inputs) (length inputs) (p.begun ++ lit ∷ []) after ps all s u) (ap (λ m. set products (m + 1) new) p.long)
            (put_sums rows (sets_at sets inputs) (length inputs) p.begun lit after products all s t u new dt du k (subst (λ m. m + 1 < length products) (sym p.long) room) (p.so sets have) (made sets have));
      }

  pub going_close_built : (kept : ℕ) (p : IsGoing rows nets inputs n (Close kept ∷ after) products all s t) (d : Ref) (result : Result Ref OpFault)
      → ((sets : ℕ → SymbolicSet) (row : List Lit) (f : Function) → length row ≡ length inputs → ((k : ℕ) → n ≤ k → k < length row → get_or row k Any ≡ Any) → HaveInputs t sets nets inputs
      → Means t f all → Means t (product (take n (factors row (sets_at sets inputs)))) (get_or products n d)
      → Built (disjunction f (product (factors row (sets_at sets inputs))) ∷ row_chain row (sets_at sets inputs)) (HasFunction (disjunction f (product (factors row (sets_at sets inputs))))) t u result)
      → (sets : ℕ → SymbolicSet) (have : HaveInputs s sets nets inputs)
      → Built (rows_work rows (sets_at sets inputs)) (HasFunction (disjunction (p.so sets have).f (product (factors (padded (length inputs) p.begun) (sets_at sets inputs))))) s u result
  going_close_built kept p d result call sets have =
      let ws : List SymbolicSet = sets_at sets inputs in
      let q = p.so sets have in
      let row : List Lit = padded (length inputs) p.begun in
      let le : length p.begun ≤ length inputs = subst (λ m. m ≤ length inputs) (sym p.long) p.within in
      let begun_is : take n row ≡ p.begun = ap (λ m. take m row) (sym p.long) ∙ take-append_seam p.begun _ in
      let same : product (factors p.begun ws) ≡ product (take n (factors row ws)) = ap (λ xs. product (factors xs ws)) (sym begun_is) ∙ ap (whole conjunction always) (take-factors n row ws) in
      let begun_means : Means t (product (factors p.begun ws)) (get_or products n d) = subst (λ m. Means t (product (factors p.begun ws)) (get_or products m d)) p.long (so_far rows ws (length inputs) p.begun (Close kept ∷ after) products all s t q d) in
      close_built rows ws (length inputs) p.begun kept after products all s t u result dt du q
      (call sets row q.f (padded_long (length inputs) p.begun le) (λ k above inside. padded_blank (length inputs) p.begun k (subst (λ m. m ≤ k) (sym p.long) above))
      (Inputs-keep s t sets nets inputs ds dt p.keeps have) q.total (subst (λ (h : Function). Means t h (get_or products n d)) same begun_means))

  pub going_close : (kept : ℕ) (p : IsGoing rows nets inputs n (Close kept ∷ after) products all s t) (new : Ref) → Keeps t u → IsRef u new
      → ((sets : ℕ → SymbolicSet) (have : HaveInputs s sets nets inputs) → Built (rows_work rows (sets_at sets inputs)) (HasFunction (disjunction (p.so sets have).f (product (factors (padded (length inputs) p.begun) (sets_at sets inputs))))) s u (Ok new))
      → IsGoing rows nets inputs kept after products new s u
  going_close kept p new k ref made =
      let fit = close_kept (length inputs) n kept p.awaits after p.sound in
      let le : kept ≤ length p.begun = subst (λ m. kept ≤ m) (sym p.long) fit.0 in
      record {
        begun = take kept p.begun;
        awaits = false;
        long = length-take-le kept p.begun le;
        within = let low = fit.0 in let high = p.within in omega (arith, low, high);
        sound = fit.1;
        keeps = Keeps-trans s t u p.keeps k;
        refs = λ j d less. IsFrom-grows t.held u.held 0 (get_or products j d) k.grows (p.refs j d (let low = fit.0 in omega (arith, low, less)));
        ref_of = ref;
        so = λ sets have. close_sums rows (sets_at sets inputs) (length inputs) p.begun kept after products all s t u new dt du k le (p.so sets have) (made sets have);
      }

-- behind all pieces
pub going_end : (rows : List (List Lit)) (nets : List NetRails) (inputs : List NodeId) (n : ℕ) (products : List Ref) (all : Ref) (s t : Store) → IsGoing rows nets inputs n [] products all s t
    → (sets : ℕ → SymbolicSet) → HaveInputs s sets nets inputs → Built (rows_work rows (sets_at sets inputs)) (HasFunction (sum (row_products rows (sets_at sets inputs)))) s t (Ok all)
going_end rows nets inputs n products all s t p sets have =
    let q = p.so sets have in
    Built-made (rows_work rows (sets_at sets inputs)) (HasFunction (sum (row_products rows (sets_at sets inputs)))) s t all q.so (subst (λ (f : Function). Means t f all) q.ends q.total)

-- the same at equal values
pub going_same : (rows : List (List Lit)) (nets : List NetRails) (inputs : List NodeId) (n m : ℕ) (rest : List Piece) (products others : List Ref) (all new : Ref) (s t u : Store) → m ≡ n → others ≡ products → new ≡ all → u ≡ t
    → IsGoing rows nets inputs n rest products all s t → IsGoing rows nets inputs m rest others new s u
going_same rows nets inputs n m rest products others all new s t u em ep ea et p =
    subst (λ (x : Store). IsGoing rows nets inputs m rest others new s x) (sym et)
    (subst (λ (x : Ref). IsGoing rows nets inputs m rest others x s t) (sym ea)
    (subst (λ (x : List Ref). IsGoing rows nets inputs m rest x all s t) (sym ep)
    (subst (λ (x : ℕ). IsGoing rows nets inputs x rest products all s t) (sym em) p)))
