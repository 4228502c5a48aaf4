-- One more variable behind those that functions read doubles each bit, and makes no node.
use Rattle.std.proofs.Common.{◌≡◌, ℕ, zero, suc, ◌+◌, ◌≤◌, Bool, true, false, not, cond, List, [], ◌∷◌, ◌++◌, map, take, drop, length, arith, refl, sym, ◌∙◌, ap}
use Rattle.std.specs.Prelude.{All, ◌||◌}
use Rattle.std.specs.List.{filter, list_any}
use Rattle.std.specs.Set.{is_member, unique_keys}
use Rattle.std.proofs.lemmas.List.{length-append, length-drop, length-map, length-take, map-append}
use Rattle.std.proofs.lemmas.List.Elements.{All-head, All-tail, filter-append}
use Rattle.dd_nodes.specs.Functions.{bits_of, cofactor, cofactors, is_constant, node_count, prefixes, same_bits}
use Rattle.dd_nodes.proofs.Counts.{bits-same, same_bits-tells}
use Rattle.ste_base.specs.Functions.{Function}
use Rattle.exact_model.specs.Wider.{IsOfFirst, WiderHasAsManyNodes}

-- each bit twice
double : List Bool → List Bool
double [] = []
double (b ∷ bits) = b ∷ b ∷ double bits

double_append : (xs ys : List Bool) → double (xs ++ ys) ≡ double xs ++ double ys
unfolding double
double_append [] ys = refl
double_append (x ∷ xs) ys = ap (λ bits. x ∷ x ∷ bits) (double_append xs ys)

same_double : (xs ys : List Bool) → same_bits (double xs) (double ys) ≡ same_bits xs ys
unfolding double
same_double [] [] = refl
same_double [] (y ∷ ys) = refl
same_double (x ∷ xs) [] = refl
same_double (true ∷ xs) (true ∷ ys) = same_double xs ys
same_double (true ∷ xs) (false ∷ ys) = refl
same_double (false ∷ xs) (true ∷ ys) = refl
same_double (false ∷ xs) (false ∷ ys) = same_double xs ys

-- the last of so many variables and one more is not read
abbrev IsWithoutLast : ℕ → Function → Type 0
IsWithoutLast k f = (bits : List Bool) → length bits ≡ suc k → f bits ≡ f (take k bits)

bits_double : (k : ℕ) (f : Function) → IsWithoutLast k f → bits_of (suc k) f ≡ double (bits_of k f)
unfolding double
bits_double zero f h =
    let low : f (false ∷ []) ≡ f [] = h (false ∷ []) refl in
    let high : f (true ∷ []) ≡ f [] = h (true ∷ []) refl in
    cc
bits_double (suc k) f h =
    ap (λ bits. bits ++ bits_of (suc k) (λ rest. f (true ∷ rest))) (bits_double k (λ rest. f (false ∷ rest)) (λ rest l. h (false ∷ rest) (ap suc l)))
    ∙ ap (λ bits. double (bits_of k (λ rest. f (false ∷ rest))) ++ bits) (bits_double k (λ rest. f (true ∷ rest)) (λ rest l. h (true ∷ rest) (ap suc l)))
    ∙ sym (double_append (bits_of k (λ rest. f (false ∷ rest))) (bits_of k (λ rest. f (true ∷ rest))))

-- ---- cofactors

takes : (k : ℕ) (p bits : List Bool) → length p ≤ k → k ≤ length bits → take k (p ++ drop (length p) bits) ≡ p ++ drop (length p) (take k bits)
takes k [] bits short long = refl
takes zero (b ∷ p) bits short long = absurd (omega arith)
takes (suc k) (b ∷ p) [] short long = absurd (omega arith)
takes (suc k) (b ∷ p) (c ∷ bits) short long = ap (λ rest. b ∷ rest) (takes k p bits (omega arith) (omega arith))

cofactor_without : (k : ℕ) (p : List Bool) (f : Function) → length p ≤ k → IsWithoutLast k f → IsWithoutLast k (cofactor p f)
cofactor_without k p f short h bits long =
    h (p ++ drop (length p) bits) (simp (length-append, length-drop) (omega (arith, short, long)))
    ∙ ap f (takes k p bits short (omega (arith, long)))

same_itself : (bits : List Bool) → same_bits bits bits ≡ true
same_itself bits = (same_bits-tells bits bits).1 refl

constant_is : (v : ℕ) (b : Bool) → is_constant v (bits_of v (λ bits. b)) ≡ true
constant_is v false = ap (λ b. b || same_bits (bits_of v (λ bits. false)) (bits_of v (λ bits. true))) (same_itself (bits_of v (λ bits. false)))
constant_is v true = ap (λ b. same_bits (bits_of v (λ bits. true)) (bits_of v (λ bits. false)) || b) (same_itself (bits_of v (λ bits. true))) ∙ by (same_bits (bits_of v (λ bits. true)) (bits_of v (λ bits. false)))
  where
    by : (b : Bool) → (b || true) ≡ true
    by true = refl
    by false = refl

drop_none : (n : ℕ) (bits : List Bool) → length bits ≤ n → drop n bits ≡ []
drop_none zero [] l = refl
drop_none zero (b ∷ bits) l = absurd (omega arith)
drop_none (suc n) [] l = refl
drop_none (suc n) (b ∷ bits) l = drop_none n bits (omega arith)

-- with all variables fixed a function is constant
full_constant : (v : ℕ) (p : List Bool) (f : Function) → length p ≡ v → is_constant v (bits_of v (cofactor p f)) ≡ true
full_constant v p f long =
    ap (is_constant v) (bits-same v (cofactor p f) (λ bits. f (p ++ [])) (λ bits l. ap (λ rest. f (p ++ rest)) (drop_none (length p) bits (omega (arith, l, long)))))
    ∙ constant_is v (f (p ++ []))

constant_double : (k : ℕ) (bits : List Bool) → is_constant (suc k) (double bits) ≡ is_constant k bits
constant_double k bits =
    ap (λ bs. same_bits (double bits) bs || same_bits (double bits) (bits_of (suc k) (λ rest. true))) (bits_double k (λ rest. false) (λ rest l. refl))
    ∙ ap (λ bs. same_bits (double bits) (double (bits_of k (λ rest. false))) || same_bits (double bits) bs) (bits_double k (λ rest. true) (λ rest l. refl))
    ∙ ap (λ b. b || same_bits (double bits) (double (bits_of k (λ rest. true)))) (same_double bits (bits_of k (λ rest. false)))
    ∙ ap (λ b. same_bits bits (bits_of k (λ rest. false)) || b) (same_double bits (bits_of k (λ rest. true)))

-- ---- lists of cofactors

map_map : (F G : List Bool → List Bool) (xs : List (List Bool)) → map F (map G xs) ≡ map (λ x. F (G x)) xs
map_map F G [] = refl
map_map F G (x ∷ xs) = ap (λ ys. F (G x) ∷ ys) (map_map F G xs)

module _ (P Q : List Bool → Bool) (same : (x : List Bool) → P (double x) ≡ Q x) where
  keep : (x y : List Bool) (xs ys : List (List Bool)) → x ≡ double y → filter P xs ≡ map double (filter Q ys) → filter P (x ∷ xs) ≡ map double (filter Q (y ∷ ys))
  keep x y xs ys e rest = by (P x) (Q y) (ap P e ∙ same y)
    where
      by : (b c : Bool) → b ≡ c → cond b (x ∷ filter P xs) (filter P xs) ≡ map double (cond c (y ∷ filter Q ys) (filter Q ys))
      by true true s = cc
      by false false s = rest
      by true false s = absurd (cc s)
      by false true s = absurd (cc s)

  skip : (x : List Bool) (xs : List (List Bool)) → P x ≡ false → filter P (x ∷ xs) ≡ filter P xs
  skip x xs e = ap (λ b. cond b (x ∷ filter P xs) (filter P xs)) e

  joined : (xs xs' ys ys' : List (List Bool)) → filter P xs ≡ map double (filter Q ys) → filter P xs' ≡ map double (filter Q ys') → filter P (xs ++ xs') ≡ map double (filter Q (ys ++ ys'))
  joined xs xs' ys ys' e f =
      filter-append P xs xs' ∙ ap (λ zs. zs ++ filter P xs') e ∙ ap (λ zs. map double (filter Q ys) ++ zs) f
      ∙ sym (map-append double (filter Q ys) (filter Q ys')) ∙ ap (map double) (sym (filter-append Q ys ys'))

  -- what a list has for each short prefix, where the full ones are left out
  on_prefixes : (k : ℕ) (F G : List Bool → List Bool) → ((p : List Bool) → length p ≤ k → F p ≡ double (G p)) → ((p : List Bool) → length p ≡ suc k → P (F p) ≡ false) → filter P (map F (prefixes (suc k))) ≡ map double (filter Q (map G (prefixes k)))
  on_prefixes zero F G short full =
      keep (F []) (G []) (F (false ∷ []) ∷ F (true ∷ []) ∷ []) [] (short [] (omega arith))
      (skip (F (false ∷ [])) (F (true ∷ []) ∷ []) (full (false ∷ []) refl) ∙ skip (F (true ∷ [])) [] (full (true ∷ []) refl))
  on_prefixes (suc k) F G short full =
      keep (F []) (G []) (map F (map (λ p. false ∷ p) (prefixes (suc k)) ++ map (λ p. true ∷ p) (prefixes (suc k)))) (map G (map (λ p. false ∷ p) (prefixes k) ++ map (λ p. true ∷ p) (prefixes k))) (short [] (omega arith))
      (ap (filter P) (both F (prefixes (suc k)))
      ∙ joined (map (λ p. F (false ∷ p)) (prefixes (suc k))) (map (λ p. F (true ∷ p)) (prefixes (suc k))) (map (λ p. G (false ∷ p)) (prefixes k)) (map (λ p. G (true ∷ p)) (prefixes k))
      (on_prefixes k (λ p. F (false ∷ p)) (λ p. G (false ∷ p)) (λ p l. short (false ∷ p) (omega (arith, l))) (λ p l. full (false ∷ p) (ap suc l)))
      (on_prefixes k (λ p. F (true ∷ p)) (λ p. G (true ∷ p)) (λ p l. short (true ∷ p) (omega (arith, l))) (λ p l. full (true ∷ p) (ap suc l)))
      ∙ ap (λ xs. map double (filter Q xs)) (sym (both G (prefixes k))))
    where
      both : (H : List Bool → List Bool) (ps : List (List Bool)) → map H (map (λ p. false ∷ p) ps ++ map (λ p. true ∷ p) ps) ≡ map (λ p. H (false ∷ p)) ps ++ map (λ p. H (true ∷ p)) ps
      both H ps =
          map-append H (map (λ p. false ∷ p) ps) (map (λ p. true ∷ p) ps)
          ∙ ap (λ xs. xs ++ map H (map (λ p. true ∷ p) ps)) (map_map H (λ p. false ∷ p) ps)
          ∙ ap (λ xs. map (λ p. H (false ∷ p)) ps ++ xs) (map_map H (λ p. true ∷ p) ps)

-- the cofactors that are no constants
abbrev inner : ℕ → List Bool → Bool
inner v bits = not (is_constant v bits)

cofactors_double : (k : ℕ) (fs : List Function) → All (IsWithoutLast k) fs → filter (inner (suc k)) (cofactors (suc k) fs) ≡ map double (filter (inner k) (cofactors k fs))
cofactors_double k [] all = refl
cofactors_double k (f ∷ fs) all =
    let without = All-head (IsWithoutLast k) f fs all in
    joined (inner (suc k)) (inner k) (λ x. ap not (constant_double k x))
    (map (λ p. bits_of (suc k) (cofactor p f)) (prefixes (suc k))) (cofactors (suc k) fs) (map (λ p. bits_of k (cofactor p f)) (prefixes k)) (cofactors k fs)
    (on_prefixes (inner (suc k)) (inner k) (λ x. ap not (constant_double k x)) k (λ p. bits_of (suc k) (cofactor p f)) (λ p. bits_of k (cofactor p f))
    (λ p short. bits_double k (cofactor p f) (cofactor_without k p f short without))
    (λ p long. ap not (full_constant (suc k) p f long)))
    (cofactors_double k fs (All-tail (IsWithoutLast k) f fs all))

member_double : (x : List Bool) (xs : List (List Bool)) → is_member same_bits (map double xs) (double x) ≡ is_member same_bits xs x
member_double x [] = refl
member_double x (y ∷ ys) =
    ap (λ b. b || list_any (same_bits (double x)) (map double ys)) (same_double x y) ∙ ap (λ b. same_bits x y || b) (member_double x ys)

unique_double : (xs : List (List Bool)) → unique_keys same_bits (map double xs) ≡ map double (unique_keys same_bits xs)
unique_double [] = refl
unique_double (x ∷ xs) =
    ap (λ b. cond b (unique_keys same_bits (map double xs)) (double x ∷ unique_keys same_bits (map double xs))) (member_double x xs)
    ∙ ap (λ ys. cond (is_member same_bits xs x) ys (double x ∷ ys)) (unique_double xs) ∙ by (is_member same_bits xs x)
  where
    by : (b : Bool) → cond b (map double (unique_keys same_bits xs)) (double x ∷ map double (unique_keys same_bits xs)) ≡ map double (cond b (unique_keys same_bits xs) (x ∷ unique_keys same_bits xs))
    by true = refl
    by false = refl

one_more : (k : ℕ) (fs : List Function) → All (IsWithoutLast k) fs → node_count (suc k) fs ≡ node_count k fs
one_more k fs all =
    ap (λ xs. length (unique_keys same_bits xs)) (cofactors_double k fs all) ∙ ap length (unique_double (filter (inner k) (cofactors k fs)))
    ∙ length-map (unique_keys same_bits (filter (inner k) (cofactors k fs))) double

-- ---- more variables

pub take_take : (n k : ℕ) (bits : List Bool) → n ≤ k → take n (take k bits) ≡ take n bits
take_take zero k bits l = refl
take_take (suc n) zero bits l = absurd (omega arith)
take_take (suc n) (suc k) [] l = refl
take_take (suc n) (suc k) (b ∷ bits) l = ap (λ rest. b ∷ rest) (take_take n k bits (omega arith))

without_last : (n k : ℕ) (f : Function) → n ≤ k → IsOfFirst n f → IsWithoutLast k f
without_last n k f small h bits long =
    h bits (omega (arith, small, long)) ∙ ap f (sym (take_take n k bits small)) ∙ sym (h (take k bits) (simp length-take (omega (arith, small, long))))

pub wider_has_as_many_nodes : WiderHasAsManyNodes
wider_has_as_many_nodes n zero fs all = let e : n + 0 ≡ n = omega arith in ap (λ v. node_count v fs) e
wider_has_as_many_nodes n (suc more) fs all =
    let e : n + suc more ≡ suc (n + more) = omega arith in
    ap (λ v. node_count v fs) e ∙ one_more (n + more) fs (λ j d l. without_last n (n + more) _ (omega arith) (all j d l)) ∙ wider_has_as_many_nodes n more fs all
