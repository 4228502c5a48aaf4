use Rattle.std.proofs.Common.{◌≡◌, ◌∙◌, Some, sym, inl, inr}
use Rattle.std.proofs.lemmas.Result.{IfErr-weaker, on_ok_weaker}
use Rattle.std.specs.Prelude.{◌⊎◌}
use Rattle.hierarchy.specs.declared.fault.NetFault.TheVariants.{OutOfMemory}
use Rattle.hierarchy.specs.Faults.{missing_formal_of}
use Rattle.hierarchy.specs.Lines.{needed_formals}
use Rattle.hierarchy.specs.private.Kinds.{missing_formal_among}
use Rattle.hierarchy.proofs.Refused.{kept_check}
use Rattle.hierarchy.proofs.unbound.refuse_missing_formal_of.Goals as goal

pub returns-clause-ok : goal.returns-clause-ok
returns-clause-ok c =
    let same = kept_check needed_formals (λ set. set.keys) (λ needed. missing_formal_among needed c.args.used.now) c.args.needed.now c.args.models.now c.args.names.now.keys
    c.args.used.now.model c.in-Some.number c.in-Some-get.needed.now c.requires.needed c.requires.names (sym c.number_of.ensures ∙ c.in-Some.is)
    c.in-Some-get.ensures.lookup.3.0 c.in-Some-get.ensures.lookup.1 in
    on_ok_weaker c.refuse_missing_formal.result (λ none. sym same ∙ none) c.refuse_missing_formal.ensures.ok

pub returns-clause-err : goal.returns-clause-err
returns-clause-err c =
    let same = kept_check needed_formals (λ set. set.keys) (λ needed. missing_formal_among needed c.args.used.now) c.args.needed.now c.args.models.now c.args.names.now.keys
    c.args.used.now.model c.in-Some.number c.in-Some-get.needed.now c.requires.needed c.requires.names (sym c.number_of.ensures ∙ c.in-Some.is)
    c.in-Some-get.ensures.lookup.3.0 c.in-Some-get.ensures.lookup.1 in
    IfErr-weaker c.refuse_missing_formal.result
    (λ fault. (fault ≡ OutOfMemory) ⊎ (missing_formal_among c.in-Some-get.needed.now.keys c.args.used.now ≡ Some fault))
    (λ fault. (fault ≡ OutOfMemory) ⊎ (missing_formal_of c.args.models.now c.args.used.now ≡ Some fault))
    (λ fault h. elim h as (λ _. (fault ≡ OutOfMemory) ⊎ (missing_formal_of c.args.models.now c.args.used.now ≡ Some fault)) [
      | inl wanting ↦ inl wanting
      | inr some ↦ inr (sym same ∙ some)
    ])
    c.refuse_missing_formal.ensures.err
