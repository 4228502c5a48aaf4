-- The words of a set, made by first mentions: just those that were mentioned, each once.
use Rattle.std.proofs.Common.{◌≡◌, ℕ, Bool, true, false, not, ◌||◌, cond, List, [], ◌∷◌, ◌++◌, refl, sym, ap, ◌∙◌, subst, inl, inr}
use Rattle.std.specs.Prelude.{◌⊎◌, bytes_eq, find}
use Rattle.std.specs.List.{list_any}
use Rattle.std.proofs.lemmas.Slice.Eq.{bytes_eq-Decides}
use Rattle.indexmap.specs.IndexSet.{insert_key, insert_all}
use Rattle.blif_syntax.specs.Words.{is_one_of}
use Rattle.hierarchy.proofs.Members.{In, append_cases, in_append_left, in_append_right}

pub one_of_in : (words : List (List ℕ)) (word : List ℕ) → is_one_of words word ≡ true → In words word
one_of_in [] word e = absurd (cc)
one_of_in (first ∷ words) word e = by (one_of_in words word) (bytes_eq word first) refl e
  where
    by : (is_one_of words word ≡ true → In words word) → (b : Bool) → bytes_eq word first ≡ b → (b || is_one_of words word) ≡ true → In (first ∷ words) word
    by again true h e = inl (sym ((bytes_eq-Decides word first).0 h))
    by again false h e = inr (again e)

pub in_one_of : (words : List (List ℕ)) (word : List ℕ) → In words word → is_one_of words word ≡ true
in_one_of [] word h = absurd h
in_one_of (first ∷ words) word (inl same) = let e : bytes_eq word first ≡ true = (bytes_eq-Decides word first).1 (sym same) in rw e refl
in_one_of (first ∷ words) word (inr h) = by (bytes_eq word first) (in_one_of words word h)
  where
    by : (b : Bool) → is_one_of words word ≡ true → (b || is_one_of words word) ≡ true
    by true e = refl
    by false e = e

pub insert_old : (keys : List (List ℕ)) (name x : List ℕ) → In keys x → In (insert_key bytes_eq keys name) x
insert_old keys name x h = by (list_any (bytes_eq name) keys)
  where
    by : (b : Bool) → In (cond b keys (keys ++ name ∷ [])) x
    by true = h
    by false = in_append_left keys (name ∷ []) x h

pub insert_new : (keys : List (List ℕ)) (name : List ℕ) → In (insert_key bytes_eq keys name) name
insert_new keys name = by (list_any (bytes_eq name) keys) refl
  where
    by : (b : Bool) → list_any (bytes_eq name) keys ≡ b → In (cond b keys (keys ++ name ∷ [])) name
    by true e = one_of_in keys name e
    by false e = in_append_right keys (name ∷ []) name (inl refl)

insert_only : (keys : List (List ℕ)) (name x : List ℕ) → In (insert_key bytes_eq keys name) x → In keys x ⊎ (name ≡ x)
insert_only keys name x h = by (list_any (bytes_eq name) keys) h
  where
    by : (b : Bool) → In (cond b keys (keys ++ name ∷ [])) x → In keys x ⊎ (name ≡ x)
    by true h = inl h
    by false h = elim (append_cases keys (name ∷ []) x h) as (λ _. In keys x ⊎ (name ≡ x)) [ inl a ↦ inl a | inr b ↦ elim b as (λ _. In keys x ⊎ (name ≡ x)) [ inl same ↦ inr same | inr none ↦ absurd none ] ]

all_old : (names keys : List (List ℕ)) (x : List ℕ) → In keys x → In (insert_all bytes_eq keys names) x
all_old [] keys x h = h
all_old (name ∷ names) keys x h = all_old names (insert_key bytes_eq keys name) x (insert_old keys name x h)

pub in_set : (names keys : List (List ℕ)) (x : List ℕ) → In names x → In (insert_all bytes_eq keys names) x
in_set [] keys x h = absurd h
in_set (name ∷ names) keys x (inl e) = all_old names (insert_key bytes_eq keys name) x (subst (λ y. In (insert_key bytes_eq keys name) y) e (insert_new keys name))
in_set (name ∷ names) keys x (inr h) = in_set names (insert_key bytes_eq keys name) x h

pub set_in : (names keys : List (List ℕ)) (x : List ℕ) → In (insert_all bytes_eq keys names) x → In keys x ⊎ In names x
set_in [] keys x h = inl h
set_in (name ∷ names) keys x h = elim (set_in names (insert_key bytes_eq keys name) x h) as (λ _. In keys x ⊎ In (name ∷ names) x) [
  | inl old ↦ elim (insert_only keys name x old) as (λ _. In keys x ⊎ In (name ∷ names) x) [ inl k ↦ inl k | inr same ↦ inr (inl same) ]
  | inr new ↦ inr (inr new)
]

same_bool : (a b : Bool) → (a ≡ true → b ≡ true) → (b ≡ true → a ≡ true) → a ≡ b
same_bool true b f g = sym (f refl)
same_bool false true f g = g refl
same_bool false false f g = refl

-- a set tests as the words do that it is made of
pub set_tests : (names : List (List ℕ)) (x : List ℕ) → is_one_of (insert_all bytes_eq [] names) x ≡ is_one_of names x
set_tests names x = same_bool (is_one_of (insert_all bytes_eq [] names) x) (is_one_of names x)
    (λ e. elim (set_in names [] x (one_of_in (insert_all bytes_eq [] names) x e)) as (λ _. is_one_of names x ≡ true) [ inl none ↦ absurd none | inr h ↦ in_one_of names x h ])
    (λ e. in_one_of (insert_all bytes_eq [] names) x (in_set names [] x (one_of_in names x e)))

pub find_same : {X : Type 0} (p q : X → Bool) (xs : List X) → ((x : X) → p x ≡ q x) → find (λ x. not (p x)) xs ≡ find (λ x. not (q x)) xs
find_same p q [] each = refl
find_same p q (x ∷ xs) each = let here = each x in let rest = find_same p q xs each in rw (here, rest) refl

-- the first name that a set of words lacks is the first that the words lack
pub first_unbound : (keys words names : List (List ℕ)) → keys ≡ insert_all bytes_eq [] words → find (λ name. not (is_one_of keys name)) names ≡ find (λ name. not (is_one_of words name)) names
first_unbound keys words names e = ap (λ ks. find (λ name. not (is_one_of ks name)) names) e ∙ find_same (is_one_of (insert_all bytes_eq [] words)) (is_one_of words) names (set_tests words)
