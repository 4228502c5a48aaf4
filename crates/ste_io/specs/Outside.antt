-- Meaning. Files and sinks, as contracts see them: what they hold, were asked for and have taken,
-- where that is known, and how often they failed.
use Rattle.std.specs.Prelude.{◌≡◌, ℕ, ◌<◌, ◌≤◌, ◌⊎◌, ◌++◌, ◌∷◌, [], List, length, Option, None, Some, IfSome, IsSomeAnd}
use Rattle.std.specs.FinMap.{FinMap, get, insert}
use Rattle.ste_io.specs.Causes.{Rose}
use Rattle.std.specs.Ordering.{nat_cmp}
use Rattle.std.specs.Cmp.Lexicographic.{slice_cmp}
use Rattle.ste_io.specs.declared.files.FetchFault.{FetchFault}
use Rattle.ste_io.specs.declared.files.FetchFault.TheVariants.{Failed, TooLarge, OutOfMemory}

-- from names to bytes
abbrev pub StoredFiles : Type 0
StoredFiles = FinMap (slice_cmp nat_cmp) (List ℕ)

-- the bytes stand under the name
abbrev pub StandsAt : Option StoredFiles → List ℕ → List ℕ → Type 0
StandsAt holds name bytes = IfSome holds (λ store. get store name ≡ Some bytes)

-- more than max bytes stand under the name
abbrev pub IsTooLarge : Option StoredFiles → List ℕ → ℕ → Type 0
IsTooLarge holds name max =
    IfSome holds (λ store. IsSomeAnd (get store name) (λ bytes. max < length bytes))

-- with one more name at the end, where it is known
abbrev pub with_name : Option (List (List ℕ)) → List ℕ → Option (List (List ℕ))
with_name None name = None
with_name (Some names) name = Some (names ++ name ∷ [])

-- with more names at the end, where it is known
abbrev pub with_names : Option (List (List ℕ)) → List (List ℕ) → Option (List (List ℕ))
with_names None names = None
with_names (Some before) names = Some (before ++ names)

-- with these bytes after what was taken, where it is known
abbrev pub with_more : Option (List ℕ) → List ℕ → Option (List ℕ)
with_more None bytes = None
with_more (Some before) bytes = Some (before ++ bytes)

-- files, as contracts see them: what they hold and what they were asked for, known or not, and how
-- often reading has failed
pub record FilesState : Type 0 where
  pub holds : Option StoredFiles
  pub asked : Option (List (List ℕ))
  pub faults : ℕ

-- they were asked for one more name, and no more
abbrev pub asked_for : FilesState → List ℕ → FilesState
asked_for before name = record before { asked = with_name before.asked name }

-- they were asked for one more name, and reading failed
pub record ReadFailed (before after : FilesState) (name : List ℕ) : Type 0 where
  pub same : after.holds ≡ before.holds
  pub asking : after.asked ≡ with_name before.asked name
  pub rose : Rose before.faults after.faults
  pub later : before.faults ≤ after.faults

-- the name has these bytes, and no more happened: where it is known what they hold
pub record HasFile (name bytes : List ℕ) (before after : FilesState) : Type 0 where
  pub holds : (store : StoredFiles) → before.holds ≡ Some store →
      after.holds ≡ Some (insert store name bytes)
  pub asked : after.asked ≡ before.asked
  pub faults : after.faults ≡ before.faults

-- a fetch gives all the bytes that stand under the name, at most max, and no more happens
abbrev pub IsFetched : FilesState → FilesState → List ℕ → ℕ → List ℕ → Type 0
IsFetched before after name max bytes =
    StandsAt before.holds name bytes × (length bytes ≤ max) × (after ≡ asked_for before name)

-- why a fetch gives nothing; when memory runs out, the name may not count as asked for
abbrev pub WhyNotFetched : FilesState → FilesState → List ℕ → ℕ → FetchFault → Type 0
WhyNotFetched before after name max Failed = ReadFailed before after name
WhyNotFetched before after name max (TooLarge seen) =
    (max < seen) × IsTooLarge before.holds name max × (after ≡ asked_for before name)
WhyNotFetched before after name max OutOfMemory = (after ≡ asked_for before name) ⊎ (after ≡ before)

-- a sink, as contracts see it: what it has taken, known or not, and how often writing has failed
pub record SinkState : Type 0 where
  pub taken : Option (List ℕ)
  pub faults : ℕ

-- it took these bytes, and no more happened
abbrev pub took : SinkState → List ℕ → SinkState
took before bytes = record before { taken = with_more before.taken bytes }

-- it took these bytes, and then writing failed
pub record WriteFailed (before after : SinkState) (bytes : List ℕ) : Type 0 where
  pub taking : after.taken ≡ with_more before.taken bytes
  pub rose : Rose before.faults after.faults
  pub later : before.faults ≤ after.faults
