-- The numbers of a command that words ask for are in their ranges.
use Rattle.std.proofs.Common.{◌≡◌, ◌≤◌, ◌+◌, ◌-◌, ◌*◌, ℕ, List, [], ◌∷◌, Bool, true, false, Option, None, Some, cond, refl, arith, subst}
use Rattle.std.specs.Prelude.{◌&&◌, IfSome, codes, map, nat_eq, nat_le, not, option_and_then, option_map, string_bytes}
use Rattle.std.specs.List.{list_all}
use Rattle.std.specs.Str.{bytes_eq}
use Rattle.std.proofs.lemmas.Bool.{and_parts}
use Rattle.ste_base.specs.Number.{number_from, number_of}
use Rattle.clap.specs.Words.{Row, all_of, fault_of, first_of, matches_of}
use Rattle.command_line.specs.App.{command_app}
use Rattle.clap.specs.Kinds.{Kinds}
use Rattle.command_line.specs.Bounds.{CommandsAreBounded, IsActionBounded, IsBounded}
use Rattle.ste_base.specs.Bytes.{is_digit}
use Rattle.command_line.specs.Command.{Action, Command, action_in, action_of, bench, check, command_in, info, is_positive_number, number_given, number_or, sim, steps_given, where_sound, with_one, with_two}

-- ---- numbers

from_least : (n : ℕ) (digits : List ℕ) → n ≤ number_from n digits
from_least n [] = omega arith
from_least n (digit ∷ digits) = let rest = from_least (n * 10 + (digit - 48)) digits in omega (arith, rest)

number_least : (text : List ℕ) → is_positive_number text ≡ true → 1 ≤ number_of text
number_least [] e = absurd (cc e)
number_least (digit ∷ digits) e =
    let both = and_parts (not (nat_eq digit 48)) (list_all is_digit (digit ∷ digits)) e in
    let one = and_parts (is_digit digit) (list_all is_digit digits) both.1 in
    let low = (and_parts (nat_le 48 digit) (nat_le digit 57) one.0).0 in
    let apart = both.0 in
    let first : 1 ≤ digit - 48 = grind (arith, low, apart) in
    let rest = from_least (0 * 10 + (digit - 48)) digits in
    omega (arith, first, rest)

pub number_ranges : (greatest : ℕ) (text : List ℕ) (n : ℕ) → number_given greatest text ≡ Some n → (1 ≤ n) × (n ≤ greatest)
number_ranges greatest text n e = by (is_positive_number text && nat_le (number_of text) greatest) refl e
  where
    by : (b : Bool) → (is_positive_number text && nat_le (number_of text) greatest) ≡ b → cond b (Some (number_of text)) None ≡ Some n → (1 ≤ n) × (n ≤ greatest)
    by true is h =
        let same : number_of text ≡ n = cc h in
        let both = and_parts (is_positive_number text) (nat_le (number_of text) greatest) is in
        let small = both.1 in
        let high : number_of text ≤ greatest = grind (arith, small) in
        (subst (λ (k : ℕ). 1 ≤ k) same (number_least text both.0), subst (λ (k : ℕ). k ≤ greatest) same high)
    by false is h = absurd (cc h)

or_ranges : (usual greatest : ℕ) (text : Option (List ℕ)) (n : ℕ) → 1 ≤ usual → usual ≤ greatest → number_or usual greatest text ≡ Some n → (1 ≤ n) × (n ≤ greatest)
or_ranges usual greatest None n low high e =
    let same : usual ≡ n = cc e in
    (subst (λ (k : ℕ). 1 ≤ k) same low, subst (λ (k : ℕ). k ≤ greatest) same high)
or_ranges usual greatest (Some text) n low high e = number_ranges greatest text n e

-- ---- what is found where each of some is found

then_some : {A B : Type 0} (f : A → Option B) (found : Option A) (y : B) → option_and_then f found ≡ Some y → (x : A) × (found ≡ Some x) × (f x ≡ Some y)
then_some f None y e = absurd (cc e)
then_some f (Some x) y e = (x, refl, e)

map_some : {A B : Type 0} (f : A → B) (found : Option A) (y : B) → option_map f found ≡ Some y → (x : A) × (found ≡ Some x) × (f x ≡ y)
map_some f None y e = absurd (cc e)
map_some f (Some x) y e = (x, refl, cc e)

steps_ranges : (greatest : ℕ) (text : Option (List ℕ)) (steps : Option ℕ) → steps_given greatest text ≡ Some steps → IfSome steps (λ n. (1 ≤ n) × (n ≤ greatest))
steps_ranges greatest None steps e = let same : None ≡ steps = cc e in subst (λ (s : Option ℕ). IfSome s (λ n. (1 ≤ n) × (n ≤ greatest))) same tt
steps_ranges greatest (Some text) steps e =
    let given = map_some Some (number_given greatest text) steps e in
    subst (λ (s : Option ℕ). IfSome s (λ n. (1 ≤ n) × (n ≤ greatest))) given.2 (number_ranges greatest text given.0 given.1)

-- ---- the action

two_bounded : (does : List ℕ → List ℕ → Action) → ((one other : List ℕ) → IsActionBounded (does one other)) → (files : List (List ℕ)) (action : Action) → with_two (λ one other. Some (does one other)) files ≡ Some action → IsActionBounded action
two_bounded does bounded [] action e = absurd (cc e)
two_bounded does bounded (one ∷ []) action e = absurd (cc e)
two_bounded does bounded (one ∷ other ∷ []) action e = let same : does one other ≡ action = cc e in subst IsActionBounded same (bounded one other)
two_bounded does bounded (one ∷ other ∷ more ∷ files) action e = absurd (cc e)

info_bounded : (files : List (List ℕ)) (action : Action) → with_one (λ net. Some (info net)) files ≡ Some action → IsActionBounded action
info_bounded [] action e = absurd (cc e)
info_bounded (net ∷ []) action e = let same : info net ≡ action = cc e in subst IsActionBounded same tt
info_bounded (net ∷ more ∷ files) action e = absurd (cc e)

bench_bounded : (files : List (List ℕ)) (action : Action) → with_one (λ stages. option_map bench (number_given 1000 stages)) files ≡ Some action → IsActionBounded action
bench_bounded [] action e = absurd (cc e)
bench_bounded (stages ∷ []) action e =
    let given = map_some bench (number_given 1000 stages) action e in
    subst IsActionBounded given.2 (number_ranges 1000 stages given.0 given.1)
bench_bounded (stages ∷ more ∷ files) action e = absurd (cc e)

choose : {A : Type 0} (b : Bool) (one other : Option A) (x : A) (P : Type 0) → (one ≡ Some x → P) → (other ≡ Some x → P) → cond b one other ≡ Some x → P
choose true one other x P f g e = f e
choose false one other x P f g e = g e

action_bounded : (word : List ℕ) (files : List (List ℕ)) (action : Action) → action_of word files ≡ Some action → IsActionBounded action
action_bounded word files action e =
    choose (bytes_eq word (codes "check")) _ _ action (IsActionBounded action) (two_bounded check (λ one other. tt) files action)
    (choose (bytes_eq word (codes "info")) _ _ action (IsActionBounded action) (info_bounded files action)
    (choose (bytes_eq word (codes "sim")) _ _ action (IsActionBounded action) (two_bounded sim (λ one other. tt) files action)
    (choose (bytes_eq word (codes "bench")) _ _ action (IsActionBounded action) (bench_bounded files action) (λ none. absurd (cc none))))) e

-- ---- the command

in_bounded : (rows : List Row) (command : Command) → command_in rows ≡ Some command → IsBounded command
in_bounded rows command e =
    let one = then_some _ (action_in rows) command e in
    let two = then_some _ (number_or 4 64 (first_of (codes "workers") rows)) command one.2 in
    let three = then_some _ (steps_given 16000000 (first_of (codes "steps") rows)) command two.2 in
    let four = map_some _ (number_or 8 64 (first_of (codes "cubes") rows)) command three.2 in
    let word = then_some _ (first_of (codes "ACTION") rows) one.0 one.1 in
    let files = then_some _ (all_of (codes "FILES") rows) one.0 word.2 in
    subst IsBounded four.2 (record {
      action = action_bounded word.0 files.0 one.0 files.2;
      workers = or_ranges 4 64 (first_of (codes "workers") rows) two.0 (omega arith) (omega arith) two.1;
      steps = steps_ranges 16000000 (first_of (codes "steps") rows) three.0 three.1;
      cubes = or_ranges 8 64 (first_of (codes "cubes") rows) four.0 (omega arith) (omega arith) four.1;
    })

sound_found : {A : Type 0} (kinds : Kinds) (found : Option A) (x : A) → where_sound kinds found ≡ Some x → found ≡ Some x
sound_found [] found x e = e
sound_found (kind ∷ kinds) found x e = absurd (cc e)

pub commands_are_bounded : CommandsAreBounded
commands_are_bounded words command e =
    let texts = map string_bytes words in
    in_bounded (matches_of command_app texts) command (sound_found (fault_of command_app texts) (command_in (matches_of command_app texts)) command e)
