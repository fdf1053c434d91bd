-- `planner_settings::walk_setting` meets its contract. The words hold the setting, and the walk depends on the steering bits alone.
-- Assumes nothing.
use mathlib.Core.Path.{refl}
use Rattle.planner_settings.proofs.SettingWalk.{planned_listed, planned_walkable, setting_walked}
use Rattle.planner_settings.proofs.walk_setting.Goals as goal

pub set_words-requires : goal.set_words-requires
set_words-requires c = (planned_listed _ _ _ _ c.requires.plannable.1, record { words = refl; marks = refl })

pub find_path-requires : goal.find_path-requires
find_path-requires c = planned_walkable _ _ _ c.args.problem c.requires.plannable.1 _ c.requires.way_len

pub returns : goal.returns
returns c = let f = c.find_path.ensures in
    record { each = setting_walked _ _ c.args.problem _ _ _ c.set_words.ensures _ _ f; way_len = f.size }
