-- How many bytes the fields of a record have, as the code adds them up.
use Rattle.std.specs.Prelude.{ℕ, ◌+◌, ◌-◌, ◌*◌}
use Rattle.settings.specs.Settings.{byte_count, row_count, value_count, kind_row, tiling_row}
use Rattle.image_forms.specs.declared.Form.{Form}

-- before a field's values: set code and length
abbrev pub field_head : ℕ
field_head = 2

-- the fields of all rows, and those of the rows that form 1 has no field for
abbrev pub all_fields : ℕ
all_fields = field_head * row_count + value_count

abbrev pub later_fields : ℕ
later_fields = field_head + byte_count kind_row + (field_head + byte_count tiling_row)

abbrev pub fields_size : Form → ℕ
fields_size Form.One = all_fields - later_fields
fields_size Form.Two = all_fields
