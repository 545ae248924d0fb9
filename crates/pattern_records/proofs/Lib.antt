mod Lines
mod Numbers
mod Records
