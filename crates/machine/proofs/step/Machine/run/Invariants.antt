use Rattle.std.proofs.Common.{◌≡◌, ◌-◌}
use Rattle.journal.specs.Journal.{loan}
use Rattle.machine.specs.Work.{Stays}
use Rattle.machine.proofs.Runs.{whole_from}
use Rattle.machine.proofs.step.Machine.run.Given as goal

-- what was run and what is left to run are the whole run
abbrev pub invariant-loop-made : goal.invariant-loop-made
invariant-loop-made g l =
    let μ = g.R.Rulebook.meaning l.initial.self.rules.now in
    record {
      stays : Stays g.R.Rulebook.meaning l.initial.self l.self;
      loan : loan l.journal ≡ loan l.initial.journal;
      whole : whole_from μ (l.budget - l._made) l.self.state l.self l.journal ≡ whole_from μ l.budget l.initial.self.state l.initial.self l.initial.journal;
    }
