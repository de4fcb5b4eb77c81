mod Digits
mod Sums
mod Trimmed
mod PrintedIssn
mod PrintedIsbn
