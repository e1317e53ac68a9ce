use Rattle.std.proofs.Common.{refl, sym, ap, ◌∙◌, [], ◌∷◌}
use Rattle.pp_bytes.specs.Bytes.{all_bytes}
use Rattle.pp_http.specs.ByteSets.{ends, blanks, marks, list_bytes, token_bytes, value_bytes, value_bytes_no_comma, plain_value_bytes, target_bytes, every_byte, down}
use Rattle.pp_http.specs.Rows.{bytes_in}
use Rattle.pp_http.specs.declared.row.Bytes.TheVariants as sets
use Rattle.pp_http.proofs.SetLemmas.{made}
use Rattle.pp_http.proofs.row.byte_set.Goals as goal

pub returns-in-Ends : goal.returns-in-Ends
unfolding all_bytes ends blanks marks list_bytes token_bytes value_bytes value_bytes_no_comma plain_value_bytes target_bytes every_byte
returns-in-Ends c = made c.set_of.result (down 256 ((10, 10) ∷ (13, 13) ∷ [])) (bytes_in sets.Ends) c.set_of.ensures refl ∙ ap bytes_in (sym c.in-Ends.is)

pub returns-in-Blanks : goal.returns-in-Blanks
unfolding all_bytes ends blanks marks list_bytes token_bytes value_bytes value_bytes_no_comma plain_value_bytes target_bytes every_byte
returns-in-Blanks c = made c.set_of-in-Blanks.result (down 256 ((9, 9) ∷ (32, 32) ∷ [])) (bytes_in sets.Blanks) c.set_of-in-Blanks.ensures refl ∙ ap bytes_in (sym c.in-Blanks.is)

pub returns-in-Marks : goal.returns-in-Marks
unfolding all_bytes ends blanks marks list_bytes token_bytes value_bytes value_bytes_no_comma plain_value_bytes target_bytes every_byte
returns-in-Marks c = made c.set_of-in-Marks.result (down 256 ((10, 10) ∷ (13, 13) ∷ (44, 44) ∷ [])) (bytes_in sets.Marks) c.set_of-in-Marks.ensures refl ∙ ap bytes_in (sym c.in-Marks.is)

pub returns-in-List : goal.returns-in-List
unfolding all_bytes ends blanks marks list_bytes token_bytes value_bytes value_bytes_no_comma plain_value_bytes target_bytes every_byte
returns-in-List c = made c.set_of-in-List.result (down 256 ((9, 9) ∷ (32, 32) ∷ (44, 44) ∷ [])) (bytes_in sets.List) c.set_of-in-List.ensures refl ∙ ap bytes_in (sym c.in-List.is)

pub returns-in-Token : goal.returns-in-Token
unfolding all_bytes ends blanks marks list_bytes token_bytes value_bytes value_bytes_no_comma plain_value_bytes target_bytes every_byte
returns-in-Token c = made c.set_of-in-Token.result (down 256 ((33, 33) ∷ (35, 39) ∷ (42, 43) ∷ (45, 46) ∷ (48, 57) ∷ (65, 90) ∷ (94, 122) ∷ (124, 124) ∷ (126, 126) ∷ [])) (bytes_in sets.Token) c.set_of-in-Token.ensures refl ∙ ap bytes_in (sym c.in-Token.is)

pub returns-in-Value : goal.returns-in-Value
unfolding all_bytes ends blanks marks list_bytes token_bytes value_bytes value_bytes_no_comma plain_value_bytes target_bytes every_byte
returns-in-Value c = made c.set_of-in-Value.result (down 256 ((9, 9) ∷ (32, 126) ∷ (128, 255) ∷ [])) (bytes_in sets.Value) c.set_of-in-Value.ensures refl ∙ ap bytes_in (sym c.in-Value.is)

pub returns-in-ValueNoComma : goal.returns-in-ValueNoComma
unfolding all_bytes ends blanks marks list_bytes token_bytes value_bytes value_bytes_no_comma plain_value_bytes target_bytes every_byte
returns-in-ValueNoComma c = made c.set_of-in-ValueNoComma.result (down 256 ((9, 9) ∷ (32, 43) ∷ (45, 126) ∷ (128, 255) ∷ [])) (bytes_in sets.ValueNoComma) c.set_of-in-ValueNoComma.ensures refl ∙ ap bytes_in (sym c.in-ValueNoComma.is)

pub returns-in-PlainValue : goal.returns-in-PlainValue
unfolding all_bytes ends blanks marks list_bytes token_bytes value_bytes value_bytes_no_comma plain_value_bytes target_bytes every_byte
returns-in-PlainValue c = made c.set_of-in-PlainValue.result (down 256 ((9, 9) ∷ (32, 33) ∷ (35, 43) ∷ (45, 126) ∷ (128, 255) ∷ [])) (bytes_in sets.PlainValue) c.set_of-in-PlainValue.ensures refl ∙ ap bytes_in (sym c.in-PlainValue.is)

pub returns-in-Target : goal.returns-in-Target
unfolding all_bytes ends blanks marks list_bytes token_bytes value_bytes value_bytes_no_comma plain_value_bytes target_bytes every_byte
returns-in-Target c = made c.set_of-in-Target.result (down 256 ((33, 126) ∷ [])) (bytes_in sets.Target) c.set_of-in-Target.ensures refl ∙ ap bytes_in (sym c.in-Target.is)

pub returns-in-Every : goal.returns-in-Every
unfolding all_bytes ends blanks marks list_bytes token_bytes value_bytes value_bytes_no_comma plain_value_bytes target_bytes every_byte
returns-in-Every c = made c.set_of-in-Every.result (down 256 ((0, 255) ∷ [])) (bytes_in sets.Every) c.set_of-in-Every.ensures refl ∙ ap bytes_in (sym c.in-Every.is)
