-- The cubes of a diagram are its paths to 1.
use Rattle.std.proofs.Common.{◌≡◌, ◌≢◌, ℕ, zero, suc, ◌+◌, ◌-◌, ◌<◌, ◌≤◌, Bool, true, false, List, [], ◌∷◌, ◌++◌, map, length, take, Some, arith, sym, ap, refl, ◌∙◌, subst}
use Rattle.std.specs.Prelude.{if◌then◌else◌, nat_lt, count_by}
use Rattle.std.proofs.lemmas.Bool.{ltb-true, ltb-false, lt-ltb, le-ltb}
use Rattle.std.proofs.lemmas.List.{append_assoc, map-append, length-append, length-map, take_at, take-append-le}
use Rattle.ste_base.specs.declared.id.VarId.{VarId}
use Rattle.dd_nodes.specs.declared.node.Ref.{Ref}
use Rattle.dd_nodes.specs.declared.node.Node.{Node}
use Rattle.dd_nodes.specs.Diagram.{Held, IsDiagram, IsFrom, child, walk, value}
use Rattle.dd_nodes.specs.Stores.{Store, function}
use Rattle.dd_nodes.proofs.Walks.{canonical, child-above, child-high, child-low, from_constant, from_held, IsFrom-less, same_walks, walk-constant}
use Rattle.ste_model.specs.declared.cubes.CubeList.{CubeList}
use Rattle.ste_model.specs.Cubes.{AreOneSet, first_cofactor, cubes_from, cubes_of, first_cubes, is_in_cube, with_literal}
use Rattle.dd_query.proofs.Walking.{append_nil}
use Rattle.ste_model.proofs.CubeLists.{cubes_are_exact, from_differ, from_empty, from_full, from_same}

-- ---- what is read of a diagram

same_cubes : (h : Held) (r : Ref) (i j k m : ℕ) → i ≡ j → k ≡ m → cubes_from i k (walk h i r) ≡ cubes_from j m (walk h j r)
same_cubes h r i j k m e f = ap (λ (x : ℕ). cubes_from x k (walk h x r)) e ∙ ap (λ (y : ℕ). cubes_from j y (walk h j r)) f

-- the variables before a reference's own leave no literal
skip : (h : Held) (v n m i j k : ℕ) (r : Ref) → IsDiagram h v → n + i ≡ j → k ≡ n + m → IsFrom h j r → cubes_from i k (walk h i r) ≡ cubes_from j m (walk h j r)
skip h v zero m i j k r d e g f = same_cubes h r i j k m (omega arith) (omega arith)
skip h v (suc n) m i j zero r d e g f = absurd (omega arith)
skip h v (suc n) m i j (suc k) r d e g f =
    let above : IsFrom h (i + 1) r = IsFrom-less h (i + 1) j r (omega arith) f in
    let still : (b : Bool) → child h i b r ≡ r = λ b. child-above h v i b r d above in
    let same : AreOneSet k (first_cofactor false (walk h i r)) (first_cofactor true (walk h i r)) =
    λ rest l. ap (λ (x : Ref). walk h (i + 1) x rest) (still false ∙ sym (still true)) in
    from_same i k (walk h i r) same
    ∙ ap (λ (x : Ref). cubes_from (suc i) k (walk h (i + 1) x)) (still false)
    ∙ ap (λ (x : ℕ). cubes_from (suc i) k (walk h x r)) (let e : i + 1 ≡ suc i = omega arith in e)
    ∙ skip h v n m (suc i) j k r d (omega arith) (omega arith) f

-- the cubes of a node are those of its children, each behind the literal of its variable
pub of_node : (h : Held) (v : ℕ) (r : Ref) (n : Node) → IsDiagram h v → h r ≡ Some n → cubes_of v (value h r) ≡ with_literal n.var false (cubes_of v (value h n.lo)) ++ with_literal n.var true (cubes_of v (value h n.hi))
of_node h v r n d at =
    let j = n.var in
    let low : j < v = d.below r n at in
    let m : ℕ = v - (j + 1) in
    let next : j + 1 ≡ suc j = omega arith in
    let apart : ¬ AreOneSet m (first_cofactor false (walk h j r)) (first_cofactor true (walk h j r)) =
    λ same. d.differ r n at (same_walks h v m (j + 1) n.lo n.hi d (omega arith) (d.low r n at) (d.high r n at)
    (λ bits l. ap (λ (x : Ref). walk h (j + 1) x bits) (sym (child-low h j r n at refl)) ∙ same bits l ∙ ap (λ (x : Ref). walk h (j + 1) x bits) (child-high h j r n at refl))) in
    let behind : (c : Ref) → IsFrom h (j + 1) c → cubes_from (suc j) m (walk h (j + 1) c) ≡ cubes_of v (value h c) =
    λ c f. ap (λ (x : ℕ). cubes_from x m (walk h (j + 1) c)) (sym next) ∙ sym (skip h v (j + 1) m 0 (j + 1) v c d (omega arith) (omega arith) f) in
    let zeros = ap (λ (x : Ref). cubes_from (suc j) m (walk h (j + 1) x)) (child-low h j r n at refl) ∙ behind n.lo (d.low r n at) in
    let ones = ap (λ (x : Ref). cubes_from (suc j) m (walk h (j + 1) x)) (child-high h j r n at refl) ∙ behind n.hi (d.high r n at) in
    skip h v j (suc m) 0 j v r d (omega arith) (omega arith) (from_held h j r n at (omega arith))
    ∙ from_differ j m (walk h j r) apart
    ∙ ap (λ cubes. with_literal j false cubes ++ with_literal j true (cubes_from (suc j) m (first_cofactor true (walk h j r)))) zeros
    ∙ ap (λ cubes. with_literal j false (cubes_of v (value h n.lo)) ++ with_literal j true cubes) ones

pub of_false : (h : Held) (v : ℕ) (r : Ref) → IsDiagram h v → r.0 ≡ 0 → cubes_of v (value h r) ≡ []
of_false h v r d e = from_empty 0 v (value h r) (λ bits l. walk-constant h v 0 r bits d (omega arith) ∙ rw e)

pub of_true : (h : Held) (v : ℕ) (r : Ref) → IsDiagram h v → r.0 ≡ 1 → cubes_of v (value h r) ≡ [] ∷ []
of_true h v r d e = from_full 0 v (value h r) (λ bits l. walk-constant h v 0 r bits d (omega arith) ∙ rw e)

-- what is not 0 everywhere has a cube
pub of_any : (h : Held) (v : ℕ) (r : Ref) → IsDiagram h v → IsFrom h 0 r → r.0 ≢ 0 → 0 < length (cubes_of v (value h r))
of_any h v r d f ne = by (cubes_of v (value h r)) refl
  where
    zero_there : (b : Bool) → (if b then 1 else 0) ≡ length {A = Bool} [] → b ≡ false
    zero_there false e = refl
    zero_there true e = absurd (omega arith)

    by : (cubes : List (List (VarId × Bool))) → cubes_of v (value h r) ≡ cubes → 0 < length cubes
    by (cube ∷ cubes) e = omega arith
    by [] e =
        let none : Ref = record { 0 = 0 } in
        let same = canonical h v r none d f (from_constant h 0 none (omega arith)) (λ bits l.
        zero_there (value h r bits) (sym (cubes_are_exact v (value h r) bits l) ∙ ap (count_by (is_in_cube bits)) e)
        ∙ sym (walk-constant h v 0 none bits d (omega arith))) in
        absurd (ne (ap (λ (x : Ref). x.0) same))

-- ---- lists of cubes

take_whole : {X : Type 0} (n : ℕ) (xs : List X) → length xs ≤ n → take n xs ≡ xs
take_whole zero [] l = refl
take_whole zero (x ∷ xs) l = absurd (omega arith)
take_whole (suc n) [] l = refl
take_whole (suc n) (x ∷ xs) l = ap (λ ys. x ∷ ys) (take_whole n xs (omega arith))

same_list : (one other : List (List (VarId × Bool))) (more less : Bool) → one ≡ other → more ≡ less → ◌≡◌ {A = CubeList} (record { cubes = one; more = more }) (record { cubes = other; more = less })
same_list one other more less e f = let make : List (List (VarId × Bool)) → Bool → CubeList = λ c m. record { cubes = c; more = m } in ap (λ c. make c more) e ∙ ap (λ m. make other m) f

-- a list that has more stays as it is
pub has_more : (max : ℕ) (before xs : List (List (VarId × Bool))) (list : CubeList) → list ≡ first_cubes max before → list.more ≡ true → list ≡ first_cubes max (before ++ xs)
has_more max before xs list is more =
    let above : max < length before = ltb-true max (length before) (sym (ap (λ (l : CubeList). l.more) is) ∙ more) in
    let longer = length-append before xs in
    is ∙ same_list (take max before) (take max (before ++ xs)) (nat_lt max (length before)) (nat_lt max (length (before ++ xs)))
    (sym (take-append-le max before xs (omega arith)))
    (lt-ltb max (length before) above ∙ sym (lt-ltb max (length (before ++ xs)) (omega arith)))

-- a list to which nothing is added
pub has_same : (max : ℕ) (before xs : List (List (VarId × Bool))) (list : CubeList) → list ≡ first_cubes max before → xs ≡ [] → list ≡ first_cubes max (before ++ xs)
has_same max before xs list is e = is ∙ ap (first_cubes max) (sym (append_nil before) ∙ ap (λ ys. before ++ ys) (sym e))

-- a full list to which something is added
pub is_full : (max : ℕ) (before xs : List (List (VarId × Bool))) (list : CubeList) → list ≡ first_cubes max before → list.more ≡ false → length list.cubes ≡ max → 0 < length xs → ◌≡◌ {A = CubeList} (record { cubes = list.cubes; more = true }) (first_cubes max (before ++ xs))
is_full max before xs list is more full some =
    let low : length before ≤ max = ltb-false max (length before) (sym (ap (λ (l : CubeList). l.more) is) ∙ more) in
    let whole : list.cubes ≡ before = ap (λ (l : CubeList). l.cubes) is ∙ take_whole max before low in
    let size : length before ≡ max = sym (ap length whole) ∙ full in
    let longer = length-append before xs in
    same_list list.cubes (take max (before ++ xs)) true (nat_lt max (length (before ++ xs)))
    (whole ∙ sym (take_whole max before low) ∙ sym (take-append-le max before xs (omega arith)))
    (sym (lt-ltb max (length (before ++ xs)) (omega arith)))

-- one more cube
pub has_one : (max : ℕ) (before : List (List (VarId × Bool))) (cube : List (VarId × Bool)) (list : CubeList) → list ≡ first_cubes max before → list.more ≡ false → length list.cubes ≢ max → ◌≡◌ {A = CubeList} (record { cubes = list.cubes ++ cube ∷ []; more = list.more }) (first_cubes max (before ++ cube ∷ []))
has_one max before cube list is more ne =
    let low : length before ≤ max = ltb-false max (length before) (sym (ap (λ (l : CubeList). l.more) is) ∙ more) in
    let whole : list.cubes ≡ before = ap (λ (l : CubeList). l.cubes) is ∙ take_whole max before low in
    let size : length before ≢ max = λ e. ne (ap length whole ∙ e) in
    let longer = length-append before (cube ∷ []) in
    same_list (list.cubes ++ cube ∷ []) (take max (before ++ cube ∷ [])) list.more (nat_lt max (length (before ++ cube ∷ [])))
    (ap (λ cubes. cubes ++ cube ∷ []) whole ∙ sym (take_whole max (before ++ cube ∷ []) (omega arith)))
    (more ∙ sym (le-ltb max (length (before ++ cube ∷ [])) (omega arith)))

-- ---- a path before cubes

-- the cubes, each behind a path
abbrev pub behind : List (VarId × Bool) → List (List (VarId × Bool)) → List (List (VarId × Bool))
behind path cubes = map (λ cube. path ++ cube) cubes

-- a literal before each cube is one more of the path
pub longer_path : (path : List (VarId × Bool)) (var : ℕ) (bit : Bool) (cubes : List (List (VarId × Bool))) → behind path (with_literal var bit cubes) ≡ behind (path ++ (record { 0 = var }, bit) ∷ []) cubes
longer_path path var bit [] = refl
longer_path path var bit (cube ∷ cubes) =
    let here = sym (append_assoc path ((record { 0 = var }, bit) ∷ []) cube) in
    let rest = longer_path path var bit cubes in
    ap (λ c. c ∷ behind path (with_literal var bit cubes)) here ∙ ap (λ cs. ((path ++ (record { 0 = var }, bit) ∷ []) ++ cube) ∷ cs) rest

-- the path itself is the one cube of 1
pub only_path : (path : List (VarId × Bool)) (cubes : List (List (VarId × Bool))) → cubes ≡ [] ∷ [] → behind path cubes ≡ path ∷ []
only_path path cubes e = ap (behind path) e ∙ ap (λ p. p ∷ []) (append_nil path)

-- the cubes of both children, one after the other
pub both_behind : (before : List (List (VarId × Bool))) (path low high : List (VarId × Bool)) (var : ℕ) (cubes zeros ones : List (List (VarId × Bool))) → cubes ≡ with_literal var false zeros ++ with_literal var true ones → low ≡ path ++ (record { 0 = var }, false) ∷ [] → high ≡ path ++ (record { 0 = var }, true) ∷ [] → (before ++ behind low zeros) ++ behind high ones ≡ before ++ behind path cubes
both_behind before path low high var cubes zeros ones e f g =
    append_assoc before (behind low zeros) (behind high ones)
    ∙ ap (λ cs. before ++ cs) (
    ap (λ p. behind p zeros ++ behind high ones) f ∙ ap (λ p. behind (path ++ (record { 0 = var }, false) ∷ []) zeros ++ behind p ones) g
    ∙ ap (λ cs. cs ++ behind (path ++ (record { 0 = var }, true) ∷ []) ones) (sym (longer_path path var false zeros))
    ∙ ap (λ cs. behind path (with_literal var false zeros) ++ cs) (sym (longer_path path var true ones))
    ∙ sym (map-append (λ cube. path ++ cube) (with_literal var false zeros) (with_literal var true ones))
    ∙ sym (ap (behind path) e)
    )

-- ---- the turns of the search

-- a full list, and something more behind the path
pub full_behind : (max : ℕ) (before : List (List (VarId × Bool))) (path : List (VarId × Bool)) (cubes : List (List (VarId × Bool))) (list : CubeList) → list ≡ first_cubes max before → list.more ≡ false → length list.cubes ≡ max → 0 < length cubes → ◌≡◌ {A = CubeList} (record { cubes = list.cubes; more = true }) (first_cubes max (before ++ behind path cubes))
full_behind max before path cubes list is more full some = is_full max before (behind path cubes) list is more full (subst (λ (n : ℕ). 0 < n) (sym (length-map cubes (λ cube. path ++ cube))) some)

-- the path itself is one more cube
pub one_behind : (max : ℕ) (before : List (List (VarId × Bool))) (path cube : List (VarId × Bool)) (cubes pushed : List (List (VarId × Bool))) (list : CubeList) → list ≡ first_cubes max before → list.more ≡ false → length list.cubes ≢ max → pushed ≡ list.cubes ++ cube ∷ [] → cube ≡ path → cubes ≡ [] ∷ [] → ◌≡◌ {A = CubeList} (record { cubes = pushed; more = list.more }) (first_cubes max (before ++ behind path cubes))
one_behind max before path cube cubes pushed list is more ne push copy one =
    same_list pushed (list.cubes ++ path ∷ []) list.more list.more (push ∙ ap (λ c. list.cubes ++ c ∷ []) copy) refl
    ∙ has_one max before path list is more ne
    ∙ ap (λ cs. first_cubes max (before ++ cs)) (sym (only_path path cubes one))

-- the cubes of a node, its children read in stores that are the same
pub of_node_in : (s u w : Store) (r : Ref) (n : Node) → IsDiagram s.held s.vars → u ≡ s → w ≡ s → s.held r ≡ Some n → cubes_of s.vars (function s r) ≡ with_literal n.var false (cubes_of u.vars (function u n.lo)) ++ with_literal n.var true (cubes_of w.vars (function w n.hi))
of_node_in s u w r n d e f at =
    of_node s.held s.vars r n d at
    ∙ ap (λ (x : Store). with_literal n.var false (cubes_of x.vars (function x n.lo)) ++ with_literal n.var true (cubes_of s.vars (function s n.hi))) (sym e)
    ∙ ap (λ (x : Store). with_literal n.var false (cubes_of u.vars (function u n.lo)) ++ with_literal n.var true (cubes_of x.vars (function x n.hi))) (sym f)

-- the cubes of both children, behind the path and one more literal
pub both_turns : (max : ℕ) (path low middle high : List (VarId × Bool)) (var : ℕ) (cubes zeros ones : List (List (VarId × Bool))) (old first second : CubeList) → cubes ≡ with_literal var false zeros ++ with_literal var true ones
    → low ≡ path ++ (record { 0 = var }, false) ∷ [] → middle ≡ path → high ≡ middle ++ (record { 0 = var }, true) ∷ []
    → ((before : List (List (VarId × Bool))) → old ≡ first_cubes max before → first ≡ first_cubes max (before ++ behind low zeros))
    → ((before : List (List (VarId × Bool))) → first ≡ first_cubes max before → second ≡ first_cubes max (before ++ behind high ones))
    → (before : List (List (VarId × Bool))) → old ≡ first_cubes max before → second ≡ first_cubes max (before ++ behind path cubes)
both_turns max path low middle high var cubes zeros ones old first second both is_low is_middle is_high turn next before is =
    next (before ++ behind low zeros) (turn before is)
    ∙ ap (first_cubes max) (both_behind before path low high var cubes zeros ones both is_low (is_high ∙ ap (λ (p : List (VarId × Bool)). p ++ (record { 0 = var }, true) ∷ []) is_middle))

-- nothing stands before a cube at the start
pub no_path : (path : List (VarId × Bool)) (cubes : List (List (VarId × Bool))) → path ≡ [] → behind path cubes ≡ cubes
no_path path cubes e = ap (λ (p : List (VarId × Bool)). behind p cubes) e ∙ same cubes
  where
    same : (cubes : List (List (VarId × Bool))) → behind [] cubes ≡ cubes
    same [] = refl
    same (cube ∷ cubes) = ap (λ cs. cube ∷ cs) (same cubes)

-- a path without the literal that was put behind it
pub popped : (path pushed left : List (VarId × Bool)) (literal : VarId × Bool) (n : ℕ) → pushed ≡ path ++ literal ∷ [] → n ≡ length pushed → left ≡ take (n - 1) pushed → left ≡ path
popped path pushed left literal n is size rest =
    let longer = length-append path (literal ∷ []) in
    let same = ap length is in
    let m : n - 1 ≡ length path = omega arith in
    rest ∙ ap (λ (k : ℕ). take k pushed) m ∙ ap (take (length path)) is ∙ take_at path (literal ∷ []) (length path) refl

-- the list at the start
pub at_start : (max : ℕ) (cubes : List (List (VarId × Bool))) → cubes ≡ [] → ◌≡◌ {A = CubeList} (record { cubes = cubes; more = false }) (first_cubes max [])
at_start max cubes e = same_list cubes (take max []) false (nat_lt max (length {A = List (VarId × Bool)} [])) (e ∙ sym (take_whole max [] (omega arith))) (sym (le-ltb max 0 (omega arith)))
