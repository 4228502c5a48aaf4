-- For private functions. Lists of bits, one for each assignment or choice.
use Rattle.std.specs.Prelude.{◌≡◌, ◌<◌, length, slice_index_or, ℕ, zero, suc, ◌++◌, ◌∷◌, [], Bool, true, false, List, map}

-- all lists of n bits, in order, 0 before 1
abbrev pub lists_of : ℕ → List (List Bool)
lists_of zero = [] ∷ []
lists_of (suc n) = map (λ bits. false ∷ bits) (lists_of n) ++ map (λ bits. true ∷ bits) (lists_of n)

-- by number of inputs: all lists of so many bits
abbrev pub AreChoices : List (List (List Bool)) → Type 0
AreChoices choices =
    (k : ℕ) (d : List (List Bool)) → k < length choices → slice_index_or choices k d ≡ lists_of k
