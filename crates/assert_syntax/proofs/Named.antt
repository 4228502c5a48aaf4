-- The first name that is there already, and the first variable that is not declared, in plain terms.
use Rattle.std.proofs.Common.{ℕ, zero, suc, ◌≡◌, ◌⊎◌, inl, inr, refl, sym, ap, subst, ◌∙◌, List, [], ◌∷◌, ◌++◌, Bool, true, false, ◌||◌, if◌then◌else◌, Option, Some, None, arith, append-nil, append_assoc, bytes_eq}
use Rattle.std.specs.Option.{is_some}
use Rattle.std.specs.List.{Contains, list_any}
use Rattle.std.proofs.lemmas.Slice.Eq.{bytes_eq-Decides}
use Rattle.bool_expr.specs.Read.{first_unknown, number_in}
use Rattle.bool_expr.specs.Tokens.{Token, sign, negation, opening, closing, constant, variable, wrong}
use Rattle.bool_expr.proofs.Places.{has_number}
use Rattle.assert_syntax.specs.Places.{first_double}
use Rattle.assert_syntax.specs.Rules.{IsFirstDouble, IsFirstUndeclared}

or_true : (b c : Bool) → c ≡ true → (b || c) ≡ true
or_true true c e = refl
or_true false c e = e

-- a word that stands in a list is found there
pub found_in : (names : List (List ℕ)) (word : List ℕ) → Contains names word → list_any (bytes_eq word) names ≡ true
found_in [] word (k, h, e) = absurd (omega (arith, h))
found_in (name ∷ names) word (zero, h, e) = ap (λ b. b || list_any (bytes_eq word) names) ((bytes_eq-Decides word name).1 (sym e))
found_in (name ∷ names) word (suc k, h, e) = or_true (bytes_eq word name) (list_any (bytes_eq word) names) (found_in names word (k, omega (arith, h), e))

there_by : (b : Bool) (names : List (List ℕ)) (name word : List ℕ) → bytes_eq word name ≡ b → (list_any (bytes_eq word) names ≡ true → Contains names word) → (b || list_any (bytes_eq word) names) ≡ true → Contains (name ∷ names) word
there_by true names name word e rest h = (0, omega arith, sym ((bytes_eq-Decides word name).0 e))
there_by false names name word e rest h = let c = rest h in (suc c.0, (let n = c.1 in omega (arith, n)), c.2)

-- and a word that is found stands in it
pub stands_in : (names : List (List ℕ)) (word : List ℕ) → list_any (bytes_eq word) names ≡ true → Contains names word
stands_in [] word e = absurd (cc e)
stands_in (name ∷ names) word e = there_by (bytes_eq word name) names name word refl (stands_in names word) e

no_contents : {A : Type 0} (x : A) → Contains [] x → ⊥
no_contents x (k, h, e) = absurd (omega (arith, h))

not_nil : {A : Type 0} (one : List A) (x : A) (rest : List A) → [] ≡ one ++ x ∷ rest → ⊥
not_nil [] x rest e = absurd (cc e)
not_nil (y ∷ ys) x rest e = absurd (cc e)

head_is : {A : Type 0} (x y : A) (xs ys : List A) → x ∷ xs ≡ y ∷ ys → x ≡ y
head_is x y xs ys e = cc e

rest_is : {A : Type 0} (x y : A) (xs ys : List A) → x ∷ xs ≡ y ∷ ys → xs ≡ ys
rest_is x y xs ys e = cc e

-- a name that is new, in front of a first double
double_more : (names words : List (List ℕ)) (name word : List ℕ) → list_any (bytes_eq name) names ≡ false → IsFirstDouble (names ++ name ∷ []) words word → IsFirstDouble names (name ∷ words) word
double_more names words name word new r = record {
  before = name ∷ r.before;
  after = r.after;
  stands = ap (λ k. name ∷ k) r.stands;
  double = subst (λ k. Contains k word) (append_assoc names (name ∷ []) r.before) r.double;
  first = firsts;
}
  where
    firsts : (one : List (List ℕ)) (other : List ℕ) (rest : List (List ℕ)) → name ∷ r.before ≡ one ++ other ∷ rest → Contains (names ++ one) other → ⊥
    firsts [] other rest e c =
        let same : name ≡ other = head_is name other r.before rest e in
        let known : Contains names name = subst (λ k. Contains k name) (append-nil names) (subst (Contains (names ++ [])) (sym same) c) in
        let h = sym new ∙ found_in names name known in absurd (cc h)
    firsts (x ∷ one) other rest e c =
        let same : name ≡ x = head_is name x r.before (one ++ other ∷ rest) e in
        let c2 : Contains (names ++ name ∷ one) other = subst (λ k. Contains (names ++ k ∷ one) other) (sym same) c in
        r.first one other rest (rest_is name x r.before (one ++ other ∷ rest) e) (subst (λ k. Contains k other) (sym (append_assoc names (name ∷ []) one)) c2)

double_here : (names words : List (List ℕ)) (name word : List ℕ) → list_any (bytes_eq name) names ≡ true → name ≡ word → IsFirstDouble names (name ∷ words) word
double_here names words name word h e = record {
  before = [];
  after = words;
  stands = ap (λ k. k ∷ words) e;
  double = subst (λ k. Contains k word) (sym (append-nil names)) (stands_in names word (subst (λ k. list_any (bytes_eq k) names ≡ true) e h));
  first = λ one other rest f c. not_nil one other rest f;
}

some_word : (a b : List ℕ) → Some a ≡ Some b → a ≡ b
some_word a b e = cc

double_by : (b : Bool) (names words : List (List ℕ)) (name word : List ℕ) → list_any (bytes_eq name) names ≡ b → ((first_double (names ++ name ∷ []) words ≡ Some word) → IsFirstDouble (names ++ name ∷ []) words word) → (if b then Some name else first_double (names ++ name ∷ []) words) ≡ Some word → IsFirstDouble names (name ∷ words) word
double_by true names words name word h rest e = double_here names words name word h (some_word name word e)
double_by false names words name word h rest e = double_more names words name word h (rest e)

-- the first double that is found is the first
pub double_found : (names words : List (List ℕ)) (word : List ℕ) → first_double names words ≡ Some word → IsFirstDouble names words word
double_found names [] word e = absurd (cc e)
double_found names (name ∷ words) word e = double_by (list_any (bytes_eq name) names) names words name word refl (double_found (names ++ name ∷ []) words word) e

new_by : (b : Bool) (name : List ℕ) (later : Option (List ℕ)) → (if b then Some name else later) ≡ None → (b ≡ false) × (later ≡ None)
new_by true name later e = absurd (cc e)
new_by false name later e = (refl, e)

none_double : (names words before after : List (List ℕ)) (word : List ℕ) → first_double names words ≡ None → words ≡ before ++ word ∷ after → Contains (names ++ before) word → ⊥
none_double names [] before after word none e c = not_nil before word after e
none_double names (name ∷ words) [] after word none e c =
    let new = new_by (list_any (bytes_eq name) names) name (first_double (names ++ name ∷ []) words) none in
    let same : name ≡ word = head_is name word words after e in
    let known : Contains names name = subst (λ k. Contains k name) (append-nil names) (subst (Contains (names ++ [])) (sym same) c) in
    let h = sym new.0 ∙ found_in names name known in absurd (cc h)
none_double names (name ∷ words) (x ∷ before) after word none e c =
    let new = new_by (list_any (bytes_eq name) names) name (first_double (names ++ name ∷ []) words) none in
    let same : name ≡ x = head_is name x words (before ++ word ∷ after) e in
    let c2 : Contains (names ++ name ∷ before) word = subst (λ k. Contains (names ++ k ∷ before) word) (sym same) c in
    none_double (names ++ name ∷ []) words before after word new.1 (rest_is name x words (before ++ word ∷ after) e) (subst (λ k. Contains k word) (sym (append_assoc names (name ∷ []) before)) c2)

-- where none is found there is none
pub double_none : (names words : List (List ℕ)) (word : List ℕ) → first_double names words ≡ None → IsFirstDouble names words word → ⊥
double_none names words word none r = none_double names words r.before r.after word none r.stands r.double

-- a word has a number just where it is declared
number_found : (names : List (List ℕ)) (word : List ℕ) → is_some (number_in names word) ≡ list_any (bytes_eq word) names
number_found names word = has_number 0 names word

front_one : (token : Token) (tokens : List Token) (other : List ℕ) → Contains (token ∷ tokens) (variable other) → (token ≡ variable other) ⊎ Contains tokens (variable other)
front_one token tokens other (zero, h, e) = inl e
front_one token tokens other (suc k, h, e) = inr (k, omega (arith, h), e)

-- a token in front of a first undeclared variable
undeclared_more : (names : List (List ℕ)) (token : Token) (tokens : List Token) (word : List ℕ) → ((other : List ℕ) → token ≡ variable other → Contains names other) → IsFirstUndeclared names tokens word → IsFirstUndeclared names (token ∷ tokens) word
undeclared_more names token tokens word known r = record {
  before = token ∷ r.before;
  after = r.after;
  stands = ap (λ k. token ∷ k) r.stands;
  undeclared = r.undeclared;
  first = λ other c. elim (front_one token r.before other c) [ inl e ↦ known other e | inr d ↦ r.first other d ];
}

some_true : (b : Bool) (word : List ℕ) (later : Option (List ℕ)) → (if b then later else Some word) ≡ None → (b ≡ true) × (later ≡ None)
some_true true word later e = (refl, e)
some_true false word later e = absurd (cc e)

one_variable : (a b : List ℕ) → variable a ≡ variable b → a ≡ b
one_variable a b e = cc

undeclared_by : (b : Bool) (names : List (List ℕ)) (name word : List ℕ) (tokens : List Token) → is_some (number_in names name) ≡ b → (first_unknown (number_in names) tokens ≡ Some word → IsFirstUndeclared names tokens word) → (if b then first_unknown (number_in names) tokens else Some name) ≡ Some word → IsFirstUndeclared names (variable name ∷ tokens) word
undeclared_by true names name word tokens h rest e =
    undeclared_more names (variable name) tokens word (λ other f. stands_in names other (subst (λ k. list_any (bytes_eq k) names ≡ true) (one_variable name other f) (sym (number_found names name) ∙ h))) (rest e)
undeclared_by false names name word tokens h rest e =
    let same : name ≡ word = some_word name word e in record {
      before = [];
      after = tokens;
      stands = ap (λ k. variable k ∷ tokens) same;
      undeclared = λ c. let f = sym h ∙ number_found names name ∙ found_in names name (subst (Contains names) (sym same) c) in absurd (cc f);
      first = λ other c. absurd (no_contents (variable other) c);
    }

-- the first undeclared variable that is found is the first
pub undeclared_found : (names : List (List ℕ)) (tokens : List Token) (word : List ℕ) → first_unknown (number_in names) tokens ≡ Some word → IsFirstUndeclared names tokens word
undeclared_found names [] word e = absurd (cc e)
undeclared_found names (variable name ∷ tokens) word e = undeclared_by (is_some (number_in names name)) names name word tokens refl (undeclared_found names tokens word) e
undeclared_found names (sign s ∷ tokens) word e = undeclared_more names (sign s) tokens word (λ other f. absurd (cc f)) (undeclared_found names tokens word e)
undeclared_found names (negation ∷ tokens) word e = undeclared_more names negation tokens word (λ other f. absurd (cc f)) (undeclared_found names tokens word e)
undeclared_found names (opening ∷ tokens) word e = undeclared_more names opening tokens word (λ other f. absurd (cc f)) (undeclared_found names tokens word e)
undeclared_found names (closing ∷ tokens) word e = undeclared_more names closing tokens word (λ other f. absurd (cc f)) (undeclared_found names tokens word e)
undeclared_found names (constant b ∷ tokens) word e = undeclared_more names (constant b) tokens word (λ other f. absurd (cc f)) (undeclared_found names tokens word e)
undeclared_found names (wrong ∷ tokens) word e = undeclared_more names wrong tokens word (λ other f. absurd (cc f)) (undeclared_found names tokens word e)

-- each variable of these tokens is declared
abbrev AreDeclared : List (List ℕ) → List Token → Type 0
AreDeclared names tokens = (word : List ℕ) → Contains tokens (variable word) → Contains names word

declared_more : (names : List (List ℕ)) (token : Token) (tokens : List Token) → ((other : List ℕ) → token ≡ variable other → Contains names other) → AreDeclared names tokens → AreDeclared names (token ∷ tokens)
declared_more names token tokens known all word c = elim (front_one token tokens word c) [ inl e ↦ known word e | inr d ↦ all word d ]

all_declared : (names : List (List ℕ)) (tokens : List Token) → first_unknown (number_in names) tokens ≡ None → AreDeclared names tokens
all_declared names [] e = λ word c. absurd (no_contents (variable word) c)
all_declared names (variable name ∷ tokens) e =
    let h = some_true (is_some (number_in names name)) name (first_unknown (number_in names) tokens) e in
    declared_more names (variable name) tokens (λ other f. stands_in names other (subst (λ k. list_any (bytes_eq k) names ≡ true) (one_variable name other f) (sym (number_found names name) ∙ h.0))) (all_declared names tokens h.1)
all_declared names (sign s ∷ tokens) e = declared_more names (sign s) tokens (λ other f. absurd (cc f)) (all_declared names tokens e)
all_declared names (negation ∷ tokens) e = declared_more names negation tokens (λ other f. absurd (cc f)) (all_declared names tokens e)
all_declared names (opening ∷ tokens) e = declared_more names opening tokens (λ other f. absurd (cc f)) (all_declared names tokens e)
all_declared names (closing ∷ tokens) e = declared_more names closing tokens (λ other f. absurd (cc f)) (all_declared names tokens e)
all_declared names (constant b ∷ tokens) e = declared_more names (constant b) tokens (λ other f. absurd (cc f)) (all_declared names tokens e)
all_declared names (wrong ∷ tokens) e = declared_more names wrong tokens (λ other f. absurd (cc f)) (all_declared names tokens e)

stands_behind : (before after : List Token) (token : Token) → Contains (before ++ token ∷ after) token
stands_behind [] after token = (0, omega arith, refl)
stands_behind (x ∷ before) after token = let c = stands_behind before after token in (suc c.0, (let n = c.1 in omega (arith, n)), c.2)

-- where none is found each variable is declared
pub undeclared_none : (names : List (List ℕ)) (tokens : List Token) (word : List ℕ) → first_unknown (number_in names) tokens ≡ None → IsFirstUndeclared names tokens word → ⊥
undeclared_none names tokens word none r = r.undeclared (all_declared names tokens none word (subst (λ k. Contains k (variable word)) (sym r.stands) (stands_behind r.before r.after (variable word))))

abbrev pub or_else : Option (List ℕ) → Option (List ℕ) → Option (List ℕ)
or_else None other = other
or_else (Some word) other = Some word

if_or : (b : Bool) (word : List ℕ) (whole one other : Option (List ℕ)) → whole ≡ or_else one other → (if b then whole else Some word) ≡ or_else (if b then one else Some word) other
if_or true word whole one other e = e
if_or false word whole one other e = refl

-- the first undeclared variable of some tokens, or else of others
pub unknown_both : (number : List ℕ → Option ℕ) (one other : List Token) → first_unknown number (one ++ other) ≡ or_else (first_unknown number one) (first_unknown number other)
unknown_both number [] other = refl
unknown_both number (variable name ∷ one) other = if_or (is_some (number name)) name _ _ _ (unknown_both number one other)
unknown_both number (sign s ∷ one) other = unknown_both number one other
unknown_both number (negation ∷ one) other = unknown_both number one other
unknown_both number (opening ∷ one) other = unknown_both number one other
unknown_both number (closing ∷ one) other = unknown_both number one other
unknown_both number (constant b ∷ one) other = unknown_both number one other
unknown_both number (wrong ∷ one) other = unknown_both number one other
