-- Lists of sets and of what zips with them, one element after another.
use Rattle.std.proofs.Common.{◌≡◌, ℕ, zero, suc, ◌<◌, List, [], ◌∷◌, ◌++◌, length, get_or, refl, ap, arith, All}
use Rattle.std.specs.List.{AllZip}
use Rattle.std.proofs.lemmas.List.Elements.{All-nil, All-cons, Contains-append_left, Contains-append_right}
use Rattle.ste_base.specs.Functions.{Function}
use Rattle.net_core.specs.Work.{SymbolicSet, union, union_work}
use Rattle.ste_model.specs.GraphWork.{gated_set, sets_functions}
use Rattle.dual_rail.proofs.Works.{Within}
use Rattle.gste_engine.specs.private.Given.{gated_sets}
use Rattle.gste_engine.specs.private.Sums.{unions}

pub zip_push : {X Y : Type 0} (R : X → Y → Type 0) (xs : List X) (ys : List Y) (x : X) (y : Y) → AllZip R xs ys → R x y → AllZip R (xs ++ x ∷ []) (ys ++ y ∷ [])
zip_push R [] [] x y h r = (r, tt)
zip_push R [] (b ∷ ys) x y h r = absurd h
zip_push R (a ∷ xs) [] x y h r = absurd h
zip_push R (a ∷ xs) (b ∷ ys) x y h r = (h.0, zip_push R xs ys x y h.1 r)

-- what is said of pairs, of each of the second ones
pub zip_right : {X Y : Type 0} (R : X → Y → Type 0) (P : Y → Type 0) (xs : List X) (ys : List Y) → ((x : X) (y : Y) → R x y → P y) → AllZip R xs ys → All P ys
zip_right R P [] [] give h = All-nil P
zip_right R P [] (b ∷ ys) give h = absurd h
zip_right R P (a ∷ xs) [] give h = absurd h
zip_right R P (a ∷ xs) (b ∷ ys) give h = All-cons P b ys (give a b h.0) (zip_right R P xs ys give h.1)

pub zip_weaker : {X Y : Type 0} (R S : X → Y → Type 0) (xs : List X) (ys : List Y) → ((x : X) (y : Y) → R x y → S x y) → AllZip R xs ys → AllZip S xs ys
zip_weaker R S [] [] give h = tt
zip_weaker R S [] (b ∷ ys) give h = absurd h
zip_weaker R S (a ∷ xs) [] give h = absurd h
zip_weaker R S (a ∷ xs) (b ∷ ys) give h = (give a b h.0, zip_weaker R S xs ys give h.1)

-- the functions of one set are among those of all
pub gated_has : (f : Function) (ws : List SymbolicSet) (k : ℕ) (d : SymbolicSet) → k < length ws → Within (sets_functions (gated_set (get_or ws k d) f ∷ [])) (sets_functions (gated_sets f ws))
gated_has f [] k d lt g h = absurd (omega arith)
gated_has f (w ∷ ws) zero d lt g h = Contains-append_left (sets_functions (gated_set w f ∷ [])) (sets_functions (gated_sets f ws)) g h
gated_has f (w ∷ ws) (suc k) d lt g h = Contains-append_right (sets_functions (gated_set w f ∷ [])) (sets_functions (gated_sets f ws)) g (gated_has f ws k d (omega arith) g h)

pub unions_has : (vs ws : List SymbolicSet) (k : ℕ) (d e : SymbolicSet) → length vs ≡ length ws → k < length vs → Within (union_work (get_or vs k d) (get_or ws k e)) (sets_functions (unions vs ws))
unions_has [] ws k d e long lt g h = absurd (omega arith)
unions_has (v ∷ vs) [] k d e long lt g h = absurd (omega arith)
unions_has (v ∷ vs) (w ∷ ws) zero d e long lt g h = Contains-append_left (union_work v w) (sets_functions (unions vs ws)) g h
unions_has (v ∷ vs) (w ∷ ws) (suc k) d e long lt g h = Contains-append_right (union_work v w) (sets_functions (unions vs ws)) g (unions_has vs ws k d e (omega arith) (omega arith) g h)

pub unions_push : (vs ws : List SymbolicSet) (v w : SymbolicSet) → length vs ≡ length ws → unions (vs ++ v ∷ []) (ws ++ w ∷ []) ≡ unions vs ws ++ union v w ∷ []
unions_push [] [] v w e = refl
unions_push [] (b ∷ ws) v w e = absurd (omega arith)
unions_push (a ∷ vs) [] v w e = absurd (omega arith)
unions_push (a ∷ vs) (b ∷ ws) v w e = ap (λ xs. union a b ∷ xs) (unions_push vs ws v w (omega arith))

pub unions_long : (vs ws : List SymbolicSet) → length vs ≡ length ws → length (unions vs ws) ≡ length ws
unions_long [] ws e = refl
unions_long (v ∷ vs) [] e = e
unions_long (v ∷ vs) (w ∷ ws) e = ap suc (unions_long vs ws (omega arith))
