use Rattle.std.proofs.Common.{[], length, sym, refl, ◌∙◌, arith}
use Rattle.std.specs.Result.{is_ok}
use Rattle.std.proofs.lemmas.List.{drop_all}
use Rattle.image.proofs.section.Reader.count_names.Goals as goal

pub returns : goal.returns
returns c =
    let l = c.list.ensures.lists in
    record {
      lists = (
        is_ok c.list.result,
        record { labels = l.labels; rest = l.rest; split = l.split; fits = l.fits; ends = l.ends; all = l.all; number = c.names_met.ensures ∙ l.number; elements = refl; room = sym (drop_all (length l.labels) [] (omega arith)) },
      );
      stands = c.list.ensures.stands;
    }
