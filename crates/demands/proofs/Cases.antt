-- The ten P cases of 01, and those of a 1.85 line, proved together: antt plays each burst. Assumes nothing.
use mathlib.Core.Path.{◌≡◌, refl}
use mathlib.Core.List.{map, flatten}
use Rattle.settings.specs.Settings.{settings, allowed_by_row, fresh_values, within, all_allowed}
use Rattle.codes.specs.Found.{found_from}
use Rattle.models.specs.Models.{filled}
use Rattle.lists.specs.Lists.{laid_at}
use Rattle.xor.specs.Xor.{◌⊕◌, xor_all}
use Rattle.packet.specs.declared.Edition.{Edition}
use Rattle.packet.specs.Packet.{is_intact, verdict_of, data_of, packet_of}
use Rattle.packet.specs.Reading.{seems_for}
use Rattle.panels.specs.Wall.{place_from}
use Rattle.packet.specs.Answered.{is_heard}
use Rattle.panels.specs.Addressed.{reaches}
use Rattle.answers.specs.Reply.{sent_bytes}
use Rattle.answers.specs.Judged.{command, stored, off_already, takes, judge}
use Rattle.answers.specs.Played.{turned, answered}
use Rattle.answers.specs.Sample.{two_panels}
use Rattle.demands.specs.Cases.{Case, tried, cases}

pub p_cases : (edition : Edition) → map (λ (c : Case). tried edition c.burst) (cases edition) ≡ cases edition
unfolding settings found_from allowed_by_row fresh_values within all_allowed filled flatten ◌⊕◌ xor_all is_intact verdict_of data_of packet_of place_from reaches is_heard sent_bytes command stored laid_at off_already takes judge turned seems_for answered two_panels cases
p_cases Edition.Sicp185 = refl
p_cases Edition.Sicp201 = refl
