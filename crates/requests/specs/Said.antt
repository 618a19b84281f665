-- What data says to the host that waits for a request. 01, "Host side": for a set ACK, for a get its report with the right
-- length and allowed values, for either NAV or NACK.
use Rattle.std.specs.Prelude.{ℕ, Bool, false, cond, ◌&&◌, List, [], ◌∷◌, eqb, Option, Some, None}
use Rattle.lists.specs.Lists.{same}
use Rattle.models.specs.declared.Model.{Model}
use Rattle.settings.specs.Settings.{get_code}
use Rattle.codes.specs.Found.{found_by}
use Rattle.models.specs.Models.{allowed_for}
use Rattle.codes.specs.declared.Code.{Code}
use Rattle.packet.specs.Control.{control_data}
use Rattle.packet.specs.declared.Control.{Control}
use Rattle.requests.specs.declared.Said.{Said}

-- the data of a control word
unfoldable pub is_control : Control → List ℕ → Bool
is_control word d = same d (control_data word)

-- a report of row k: its get code, then as many values as it has, allowed by the model of the panel that was asked
unfoldable pub is_report : Model → ℕ → List ℕ → Bool
is_report model k [] = false
is_report model k (c ∷ values) = eqb c (get_code k) && allowed_for model k values

-- an ACK ends a set, a report a get
unfoldable pub ended_by : Model → Option Code → List ℕ → Option Said
ended_by model (Some (Code.Set row)) d = cond (is_control Control.Ack d) (Some Said.Ack) None
ended_by model (Some (Code.Get row)) d = cond (is_report model row d) (Some Said.Report) None
ended_by model None d = None

-- what data says to a host that asked a panel of this model with this code
unfoldable pub word_in : Model → ℕ → List ℕ → Option Said
word_in model code d = cond (is_control Control.Nack d) (Some Said.Nack) (cond (is_control Control.Nav d) (Some Said.Nav) (ended_by model (found_by code) d))
