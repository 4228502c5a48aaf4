use Rattle.std.proofs.Common.{◌≡◌, ◌∙◌, Some, map, not, ap, sym, inl, inr}
use Rattle.std.proofs.lemmas.Result.{IfErr-weaker, on_ok_weaker}
use Rattle.std.specs.Prelude.{◌⊎◌, find, option_map}
use Rattle.blif_syntax.specs.Words.{is_one_of}
use Rattle.hierarchy.specs.declared.fault.NetFault.TheVariants.{MissingFormal, OutOfMemory}
use Rattle.hierarchy.specs.private.Kinds.{missing_formal_among}
use Rattle.hierarchy.proofs.Sets.{first_unbound}
use Rattle.hierarchy.proofs.unbound.refuse_missing_formal.Goals as goal

pub returns-clause-ok : goal.returns-clause-ok
returns-clause-ok c =
    let same = first_unbound c.in_ok-bound.bound.keys (map (λ binding. binding.0) c.args.used.now.bindings) c.args.needed.now.keys c.in_ok-bound.ensures in
    on_ok_weaker c.refuse_unbound.result (λ none. ap (option_map (λ name. MissingFormal c.args.used.now.line name)) (sym same ∙ none)) c.refuse_unbound.ensures.ok

pub returns-clause-err : goal.returns-clause-err
returns-clause-err c =
    let same = first_unbound c.in_ok-bound.bound.keys (map (λ binding. binding.0) c.args.used.now.bindings) c.args.needed.now.keys c.in_ok-bound.ensures in
    let line : c.used.inside.line ≡ c.args.used.now.line = ap (λ used. used.line) c.used.view_is in
    IfErr-weaker c.refuse_unbound.result
    (λ fault. (fault ≡ OutOfMemory) ⊎ (option_map (λ name. MissingFormal c.used.inside.line name) (find (λ name. not (is_one_of c.in_ok-bound.bound.keys name)) c.args.needed.now.keys) ≡ Some fault))
    (λ fault. (fault ≡ OutOfMemory) ⊎ (missing_formal_among c.args.needed.now.keys c.args.used.now ≡ Some fault))
    (λ fault h. elim h as (λ _. (fault ≡ OutOfMemory) ⊎ (missing_formal_among c.args.needed.now.keys c.args.used.now ≡ Some fault)) [
      | inl wanting ↦ inl wanting
      | inr some ↦ inr (
          ap (option_map (λ name. MissingFormal c.args.used.now.line name)) (sym same)
          ∙ ap (λ n. option_map (λ name. MissingFormal n name) (find (λ name. not (is_one_of c.in_ok-bound.bound.keys name)) c.args.needed.now.keys)) (sym line)
          ∙ some)
    ])
    c.refuse_unbound.ensures.err
