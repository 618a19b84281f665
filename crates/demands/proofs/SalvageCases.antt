-- The cases of salvage, proved together: antt salvages each. Assumes nothing.
use mathlib.Core.Path.{refl}
use mathlib.Core.List.{flatten}
use Rattle.settings.specs.Settings.{settings, allowed_by_row, fresh_values, within, all_allowed}
use Rattle.codes.specs.Found.{found_from, field_by}
use Rattle.lists.specs.Lists.{laid_at}
use Rattle.tiling.specs.Kinds.{kind_with, in_wall}
use Rattle.tiling.specs.Walls.{up_to}
use Rattle.panels.specs.Wall.{place_from}
use Rattle.settings.specs.Profiles.{profile_with}
use Rattle.answers.specs.Judged.{stored}
use Rattle.image_forms.specs.Forms.{form_with}
use Rattle.image_faults.specs.Lines.{line_of}
use Rattle.image_write.specs.Written.{starts_of, image_of}
use Rattle.image_frame.specs.Frame.{edge, rises, starts_fit, frame_of, records_in}
use Rattle.image_record.specs.Head.{head_fits, head_in}
use Rattle.image_record.specs.Field.{step_at}
use Rattle.image_record.specs.Run.{ran_for, run_from}
use Rattle.image_salvage.specs.Kept.{kept_from}
use Rattle.image_salvage.specs.Salvaged.{salvaged_from, salvage_of, lines_of, text_from}
use Rattle.demands.specs.SalvageCases.{cases, CasesSalvaged}

pub cases_salvaged : CasesSalvaged
unfolding settings found_from field_by allowed_by_row fresh_values within all_allowed flatten laid_at place_from profile_with stored form_with line_of starts_of image_of edge rises starts_fit frame_of records_in head_fits head_in step_at ran_for run_from kept_from salvaged_from salvage_of lines_of text_from kind_with in_wall up_to cases
cases_salvaged = refl
