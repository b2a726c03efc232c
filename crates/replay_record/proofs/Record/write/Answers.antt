-- `Record::write` meets its contract: the call that the number names is made.
use lib.ListN.{length}
use Rattle.replay_record.specs.Lists.{lists}
use Rattle.replay_record.proofs.Agreeing.{is_place, is_merge, is_fold}
use Rattle.replay_record.proofs.Record.write.Goals as goal

pub returns-in-Place : goal.returns-in-Place
returns-in-Place c =
    rw (is_place (lists c.args.self.now) c.choices-choices.ensures c.args.writing c.args.output.now (length c.args.rep.now) _ _ c.in-Place.is c.requires c.get32-offset.ensures) at c.place.ensures

pub returns-in-Merge : goal.returns-in-Merge
returns-in-Merge c = rw (is_merge (lists c.args.self.now) c.choices-choices.ensures c.args.writing c.args.output.now (length c.args.rep.now) _ c.in-Merge.is c.requires) at c.merge.ensures

pub returns-in-Fold : goal.returns-in-Fold
returns-in-Fold c = rw (is_fold (lists c.args.self.now) c.choices-choices.ensures c.args.writing c.args.output.now (length c.args.rep.now) _ c.in-Fold.is c.requires) at c.fold.ensures.gives
