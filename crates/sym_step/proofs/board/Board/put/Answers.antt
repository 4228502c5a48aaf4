use Rattle.std.proofs.Common.{List, refl, ◌∙◌}
use Rattle.std.proofs.lemmas.List.{get_or_default}
use Rattle.gate_sets.specs.declared.net_rails.NetRails.{NetRails}
use Rattle.sym_step.proofs.Reading.{follows_marked, follows_same}
use Rattle.sym_step.proofs.board.Board.put.Goals as goal

pub returns-then-same-clause-follows : goal.returns-then-same-clause-follows
returns-then-same-clause-follows c =
    let nets : List NetRails = c.args.self.now.nets.items in
    follows_same c.args.self.now _ c.args.id c.args.r c.requires refl refl refl c.stays_full-self.ensures
    (λ d. c.if-same.ensures refl ∙ c.index.ensures ∙ get_or_default nets c.args.id c.index.result.now d c.requires)

pub returns-clause-follows : goal.returns-clause-follows
returns-clause-follows c = follows_marked c.args.self.now _ c.args.id c.args.r c.requires refl c.mark.ensures.order refl c.mark.ensures.long c.stays_full-self.ensures c.mark.ensures.marked
