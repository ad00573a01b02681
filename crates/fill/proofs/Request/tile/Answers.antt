use mathlib.Core.Path.{sym, ◌∙◌}
use lib.ListN.{length}
use Rattle.fill.specs.Lines.{value_in}
use Rattle.filter.specs.declared.Quality.TheVariants.{Weave, Bob, Yadif, Bwdif}
use Rattle.fill.proofs.Chosen.{tile_kept, tile_missing}
use Rattle.fill.proofs.Request.tile.Goals as goal

pub returns-then-kept : goal.returns-then-kept
returns-then-kept c =
    let a = c.args in
    record {
      out_after = tile_kept a.self.shown (value_in a.self.before) (value_in a.self.cur) (value_in a.self.after)
          a.self.quality a.from (length a.out.now) a.y (sym c.kept.ensures ∙ c.if-kept.true) c.samples.ensures;
      rows_len = c.requires.tiled.1;
    }

pub returns-in-Weave : goal.returns-in-Weave
returns-in-Weave c =
    let a = c.args in
    record {
      out_after = tile_missing a.self.shown (value_in a.self.before) (value_in a.self.cur) (value_in a.self.after)
          a.self.quality a.from (length a.out.now) a.y Weave c.in-Weave.is (sym c.kept.ensures ∙ c.if-kept.false) c.samples-in-Weave.ensures;
      rows_len = c.requires.tiled.1;
    }

pub returns-in-Bob : goal.returns-in-Bob
returns-in-Bob c =
    let a = c.args in
    record {
      out_after = tile_missing a.self.shown (value_in a.self.before) (value_in a.self.cur) (value_in a.self.after)
          a.self.quality a.from (length a.out.now) a.y Bob c.in-Bob.is (sym c.kept.ensures ∙ c.if-kept.false) c.bob.ensures.out_after;
      rows_len = c.bob.ensures.rows_len;
    }

pub returns-in-Yadif : goal.returns-in-Yadif
returns-in-Yadif c =
    let a = c.args in
    record {
      out_after = tile_missing a.self.shown (value_in a.self.before) (value_in a.self.cur) (value_in a.self.after)
          a.self.quality a.from (length a.out.now) a.y Yadif c.in-Yadif.is (sym c.kept.ensures ∙ c.if-kept.false) c.yadif.ensures.out_after;
      rows_len = c.yadif.ensures.rows_len;
    }

pub returns-in-Bwdif : goal.returns-in-Bwdif
returns-in-Bwdif c =
    let a = c.args in
    record {
      out_after = tile_missing a.self.shown (value_in a.self.before) (value_in a.self.cur) (value_in a.self.after)
          a.self.quality a.from (length a.out.now) a.y Bwdif c.in-Bwdif.is (sym c.kept.ensures ∙ c.if-kept.false) c.bwdif.ensures.out_after;
      rows_len = c.bwdif.ensures.rows_len;
    }
