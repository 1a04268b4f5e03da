-- What is told of the runs that an admission admits, beside an answer.
use Rattle.std.specs.Prelude.{ℕ, List, [], ◌∷◌, ◌++◌, codes}
use Rattle.std.specs.Fmt.{decimal}
use Rattle.std.specs.List.{flat_map}
use Rattle.hex.specs.Hex.{encode_lower}
use Rattle.serde_json.specs.Data.{Data}
use Rattle.serde_json.specs.Written.{compact_text}
use Rattle.gen_json.specs.JsonData.{digits_data, fields, list_of, numbers_data, whole}
use Rattle.gen_asked.specs.declared.forms.Form.{Form}
use Rattle.gen_asked.specs.declared.forms.Form.TheVariants.{Text, Json}
use Rattle.gen_enrolling.specs.declared.admitted.AdmittedRun.{AdmittedRun}
use Rattle.gen_enrolling.specs.declared.admitted.AdmittedRuns.{AdmittedRuns}

-- a node behind a space
abbrev pub node_behind_space : ℕ → List ℕ
node_behind_space node = codes " " ++ decimal node

-- the line of a run: its number, and the node that each general is
unfoldable pub run_line : AdmittedRun → List ℕ
run_line r =
    codes "run " ++ decimal r.number ++ codes " nodes" ++ flat_map node_behind_space r.nodes.items
    ++ codes "\n"

-- the lines of runs that are admitted: the id of their system in 64 hexadecimal digits, and each run
unfoldable pub admitted_text : AdmittedRuns → List ℕ
admitted_text a = codes "system " ++ encode_lower a.system ++ codes "\n" ++ flat_map run_line a.runs.items

-- a run as JSON: the node that each general is, its number and its run id
abbrev pub run_data : AdmittedRun → Data
run_data r = fields (
    (codes "nodes", numbers_data r.nodes.items)
    ∷ (codes "number", whole r.number)
    ∷ (codes "run", digits_data r.id)
    ∷ [])

-- runs that are admitted as JSON: the runs, and the id of their system
abbrev pub admitted_data : AdmittedRuns → Data
admitted_data a = fields (
    (codes "runs", list_of run_data a.runs.items)
    ∷ (codes "system", digits_data a.system)
    ∷ [])

-- the name of the member of a JSON object that tells runs that are admitted
abbrev pub admitted_name : List ℕ
admitted_name = codes "admitted"

-- the member of a JSON object that tells runs that are admitted: its name, and its value behind a colon
abbrev pub admitted_json : AdmittedRuns → List ℕ
admitted_json a = codes "\"admitted\":" ++ compact_text (admitted_data a)

-- a JSON object with this member in front of its others
abbrev pub with_member : List ℕ → List ℕ → List ℕ
with_member member [] = []
with_member member (brace ∷ others) = brace ∷ (member ++ 44 ∷ others)

-- a JSON object with these runs in front of its other members
abbrev pub object_with : AdmittedRuns → List ℕ → List ℕ
object_with a object = with_member (admitted_json a) object

-- an answer in a form, with what is told of runs that are admitted in front of it
abbrev pub answer_with : Form → AdmittedRuns → List ℕ → List ℕ
answer_with Text a answer = admitted_text a ++ answer
answer_with Json a answer = object_with a answer
