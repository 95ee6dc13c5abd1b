use Rattle.std.proofs.Common.{◌∙◌}
use Rattle.init_race.proofs.racing.act_at.Goals as goal

pub returns : goal.returns
returns g c = record {
  acted = c.in_ok-acted.acted.items;
  through = c.in_ok-acted.ensures;
  back_is = c.from_vec.ensures ∙ c.in_ok-back.ensures.readers;
  parts_are = c.in_ok-back.ensures.parts;
}
