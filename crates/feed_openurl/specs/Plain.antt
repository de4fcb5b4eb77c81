-- The characters of a value: UTF-8, or Windows-1252 as older sources send it; without its alphabet.
use Rattle.std.specs.Prelude.{ℕ, Bool, ◌||◌, ◌&&◌, ◌==◌, nat_le, nat_lt, List, Option, Some, None, if◌then◌else◌}
use Rattle.std.specs.List.{filter_map, list_all}
use Rattle.std.specs.Str.{chars, is_utf8}

-- a character lies in a range
abbrev pub is_between : ℕ → ℕ → ℕ → Bool
is_between first last c = nat_le first c && nat_le c last

-- a dash of Unicode (hyphens, en and em dashes, the minus sign)
abbrev pub is_dash : ℕ → Bool
is_dash c = is_between 8208 8213 c || (c == 8722) || (c == 65112) || (c == 65123) || (c == 65293)

-- a space of Unicode
abbrev pub is_space : ℕ → Bool
is_space c = (c == 160) || is_between 8192 8202 c || (c == 8239) || (c == 8287) || (c == 12288)

-- a character that shows nothing: the soft hyphen, joiners, marks of direction, the byte order mark
abbrev pub has_no_width : ℕ → Bool
has_no_width c =
    (c == 173) || is_between 8203 8207 c || is_between 8234 8238 c || is_between 8288 8303 c || (c == 65279)

-- a sign behind a year or a month in Chinese, Japanese and Korean: 年 and 月, 년 and 월
abbrev pub is_date_sign : ℕ → Bool
is_date_sign c = (c == 24180) || (c == 26376) || (c == 45380) || (c == 50900)

-- a sign behind a day or a volume: 日 and 일, 卷, 巻 and 권, 册 and 冊
abbrev pub is_volume_sign : ℕ → Bool
is_volume_sign c =
    (c == 26085) || (c == 51068) || (c == 21367) || (c == 24059) || (c == 44428) || (c == 20876) || (c == 20874)

-- a sign before or behind the number of an issue: 第 and 제, 号, 號 and 호, 期, 集, 輯 and 집
abbrev pub is_issue_sign : ℕ → Bool
is_issue_sign c =
    (c == 31532) || (c == 51228) || (c == 21495) || (c == 34399) || (c == 54840) || (c == 26399) || (c == 38598)
    || (c == 36655) || (c == 51665)

-- the byte of a letter or a sign beyond ASCII: a slash between the parts of a date, a space beside other numbers, or `_`
abbrev pub plain_sign : ℕ → ℕ
plain_sign c = if is_date_sign c then 47 else if is_volume_sign c || is_issue_sign c then 32 else 95

-- the byte of a character: a hyphen for each dash, a space for each space, `_` for most others beyond ASCII
abbrev pub plain_byte : ℕ → Option ℕ
plain_byte c =
    if nat_lt c 128 then Some c
    else if has_no_width c then None
    else if is_dash c then Some 45
    else if is_space c then Some 32
    else Some (plain_sign c)

-- the byte of a byte in Windows-1252, where 150 and 151 are the en dash and the em dash
abbrev pub plain_windows : ℕ → Option ℕ
plain_windows b = if is_between 150 151 b then Some 45 else plain_byte b

-- a byte of ASCII
abbrev pub is_ascii_byte : ℕ → Bool
is_ascii_byte b = nat_lt b 128

-- a value in ASCII
abbrev pub plain : List ℕ → List ℕ
plain value =
    if list_all is_ascii_byte value then value
    else if is_utf8 value then filter_map plain_byte (chars value)
    else filter_map plain_windows value
