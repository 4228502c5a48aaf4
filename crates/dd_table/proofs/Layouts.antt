-- The layout of a word: all lemmas that look into it.
use Rattle.std.proofs.Common.{◌≡◌, ℕ, ◌+◌, ◌*◌, ◌/◌, ◌%◌, ◌^◌, ◌<◌, sym, ap, ap₂, ◌∙◌, arith, div-add-mod', mod-lt}
use Rattle.std.proofs.Math.Nat.{div-div-eq-div-mul, mod-eq_of_lt}
use Rattle.std.proofs.lemmas.Nat.{div-mul-add, mod-mul-add}
use Rattle.dd_nodes.specs.declared.node.Node.{Node}
use Rattle.dd_table.specs.Codes.{ref}
use Rattle.dd_table.specs.Layout.{node_in_word, home_slot, walk_slot}

-- a word is given by its node
pub word_once : (a b : ℕ) → node_in_word a ≡ node_in_word b → a ≡ b
unfolding node_in_word
word_once a b e =
    let d : ℕ = 2 ^ 26 in
    let two : (x : ℕ) → x / d / d ≡ x / 2 ^ 52 = λ x. div-div-eq-div-mul x d d in
    let top : a / d / d ≡ b / d / d = two a ∙ ap (λ (n : Node). n.var) e ∙ sym (two b) in
    let mid : a / d % d ≡ b / d % d = ap (λ (n : Node). n.lo.0) e in
    let low : a % d ≡ b % d = ap (λ (n : Node). n.hi.0) e in
    let upper : a / d ≡ b / d = sym (div-add-mod' (a / d) d) ∙ ap₂ (λ (x y : ℕ). x * d + y) top mid ∙ div-add-mod' (b / d) d in
    sym (div-add-mod' a d) ∙ ap₂ (λ (x y : ℕ). x * d + y) upper low ∙ div-add-mod' b d

abbrev node : ℕ → ℕ → ℕ → Node
node v l h = record { var = v; lo = ref l; hi = ref h }

same_node : (a b c x y z : ℕ) → a ≡ x → b ≡ y → c ≡ z → node a b c ≡ node x y z
same_node a b c x y z p q r i = node (p i) (q i) (r i)

-- the node in the word that is made of three numbers
pub node_in_made_word : (v l h : ℕ) → l < 67108864 → h < 67108864 → node_in_word (v * 4503599627370496 + l * 67108864 + h) ≡ node v l h
unfolding node_in_word
node_in_made_word v l h small_l small_h =
    let x : ℕ = v * 4503599627370496 + l * 67108864 + h in
    let parts : x ≡ v * 4503599627370496 + (l * 67108864 + h) = omega arith in
    let top : x / 4503599627370496 ≡ v =
    ap (λ (y : ℕ). y / 4503599627370496) parts ∙ div-mul-add v 4503599627370496 (l * 67108864 + h) (omega arith) in
    let split : x ≡ (v * 67108864 + l) * 67108864 + h = omega arith in
    let upper : x / 67108864 ≡ v * 67108864 + l =
    ap (λ (y : ℕ). y / 67108864) split ∙ div-mul-add (v * 67108864 + l) 67108864 h small_h in
    same_node (x / 4503599627370496) (x / 67108864 % 67108864) (x % 67108864) v l h
    top
    (ap (λ (y : ℕ). y % 67108864) upper ∙ mod-mul-add v 67108864 l small_l)
    (ap (λ (y : ℕ). y % 67108864) split ∙ mod-mul-add (v * 67108864 + l) 67108864 h small_h)

pub home_lt : (slots w : ℕ) → 0 < slots → home_slot slots w < slots
unfolding home_slot
home_lt slots w h = mod-lt _ h

-- the home as the code computes it
pub home_is : (slots w : ℕ) → 0 < slots → w * 11400714819323198485 % 18446744073709551616 / 4294967296 % slots ≡ walk_slot slots w 0
unfolding walk_slot home_slot
home_is slots w h =
    let x : ℕ = w * 11400714819323198485 % 18446744073709551616 / 4294967296 in
    let same : x % slots ≡ x % slots + 0 = omega arith in
    sym (mod-eq_of_lt (mod-lt x h)) ∙ ap (λ (y : ℕ). y % slots) same
